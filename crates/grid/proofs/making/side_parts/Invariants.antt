use Rattle.grid.proofs.Words.{made_parts}
use Rattle.std.proofs.Common.{drop, ◌++◌, ◌≡◌}
use Rattle.grid.proofs.making.side_parts.Given as goal

abbrev pub invariant-loop-index : goal.invariant-loop-index
invariant-loop-index l =
    l.parts.items ++ made_parts l.streams l.utilities l.side (drop l.index l.places)
    ≡ made_parts l.streams l.utilities l.side l.places
