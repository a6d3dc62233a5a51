use Rattle.chains.proofs.Words.{depth_of, leaving}
use Rattle.std.proofs.Common.{length, take, ◌++◌, ◌≡◌}
use Rattle.chains.proofs.links.push_leaving.Given as goal

abbrev pub invariant-loop-index : goal.invariant-loop-index
invariant-loop-index l =
    let depth = depth_of l.places l.parts.hot l.parts.cold in
    l.links.items
    ≡ l.initial.links.items ++ leaving l.case depth (length l.parts.hot) l.group (take l.index l.parts.cold)
