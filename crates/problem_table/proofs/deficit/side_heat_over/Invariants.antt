-- The heat of the side's streams so far.
use Rattle.problem_table.proofs.Words.{heat_over, sum_side}
use Rattle.std.proofs.Common.{take, ◌≡◌}
use Rattle.problem_table.proofs.deficit.side_heat_over.Given as goal

abbrev pub invariant-loop-stream : goal.invariant-loop-stream
invariant-loop-stream l = l.heat ≡ sum_side l.side (heat_over l.from_itself l.t) (take l.stream-index l.streams)
