use Rattle.chains.proofs.Words.{depth_of, entering, flat_map, links_of_group}
use Rattle.std.proofs.Common.{take, ◌++◌, ◌≡◌}
use Rattle.chains.proofs.making.chains_of.Given as goal

abbrev pub invariant-loop-group : goal.invariant-loop-group
invariant-loop-group l =
    l.links.items ≡ entering (depth_of l.places l.parts.hot l.parts.cold) l.group-items l.parts.hot
    ++ flat_map (links_of_group l.case l.places l.parts.hot l.parts.cold) (take l.group-index l.group-items)
