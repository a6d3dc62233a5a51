-- The ends of the streams so far.
use Rattle.std.proofs.Common.{take, ◌≡◌}
use Rattle.stream_case.proofs.Words.{stream_ends}
use Rattle.stream_case.proofs.ends.stream_ends.Given as goal

abbrev pub invariant-loop-stream : goal.invariant-loop-stream
invariant-loop-stream l = l.ends.items ≡ stream_ends (take l.stream-index l.streams)
