-- The greatest of 0 and the deficits at the ends of the streams so far.
use Rattle.problem_table.proofs.Words.{deficit_over, int_max, stream_ends}
use Rattle.std.proofs.Common.{fold, map, pos, take, ◌≡◌}
use Rattle.problem_table.proofs.target.greatest_deficit.Given as goal

abbrev pub invariant-loop-stream : goal.invariant-loop-stream
invariant-loop-stream l =
    l.greatest ≡ fold int_max (pos 0)
    (map (deficit_over l.from_itself l.streams) (stream_ends (take l.stream-index l.streams)))
