use Rattle.std.proofs.Common.{map, take, ◌++◌, ◌≡◌}
use Rattle.grid.proofs.Words.{shifted_level}
use Rattle.grid.proofs.places.push_levels.Given as goal

abbrev pub invariant-loop-utility : goal.invariant-loop-utility
invariant-loop-utility l =
    l.places.items ≡ l.initial.places.items ++ map shifted_level (take l.utility-index l.utilities)
