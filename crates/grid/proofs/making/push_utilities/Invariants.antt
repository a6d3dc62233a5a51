use Rattle.grid.proofs.Words.{is_here, picked, utility_part}
use Rattle.std.proofs.Common.{take, ◌++◌, ◌≡◌}
use Rattle.grid.proofs.making.push_utilities.Given as goal

abbrev pub invariant-loop-index : goal.invariant-loop-index
invariant-loop-index l =
    l.parts.items ≡ l.initial.parts.items ++ picked (is_here l.side l.place) utility_part 0 (take l.index l.utilities)
