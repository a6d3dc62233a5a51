-- The highest of the ends so far whose deficit is the hot target.
use Rattle.problem_table.proofs.Words.{FindsHighestTight, stream_ends}
use Rattle.std.proofs.Common.{take}
use Rattle.problem_table.proofs.reference.reference_place_of.Given as goal

abbrev pub invariant-loop-stream : goal.invariant-loop-stream
invariant-loop-stream l = FindsHighestTight l.streams (stream_ends (take l.stream-index l.streams)) l.place
