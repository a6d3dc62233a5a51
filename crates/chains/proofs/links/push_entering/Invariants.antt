use Rattle.chains.proofs.Words.{depth_of, entering}
use Rattle.std.proofs.Common.{take, ◌++◌, ◌≡◌}
use Rattle.chains.proofs.links.push_entering.Given as goal

abbrev pub invariant-loop-index : goal.invariant-loop-index
invariant-loop-index l =
    l.links.items
    ≡ l.initial.links.items ++ entering (depth_of l.places l.parts.hot l.parts.cold) l.groups (take l.index l.parts.hot)
