-- The ends of the side's streams so far.
use Rattle.curves.proofs.Words.{temperatures_of}
use Rattle.std.proofs.Common.{take, ◌≡◌}
use Rattle.curves.proofs.composite.temperatures_of.Given as goal

abbrev pub invariant-loop-stream : goal.invariant-loop-stream
invariant-loop-stream l = l.ends.items ≡ temperatures_of l.side (take l.stream-index l.streams)
