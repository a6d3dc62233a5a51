-- The heat of the side's streams so far.
use Rattle.curves.proofs.Words.{heat_under, sum_side}
use Rattle.std.proofs.Common.{take, ◌≡◌}
use Rattle.curves.proofs.below.side_heat_under.Given as goal

abbrev pub invariant-loop-stream : goal.invariant-loop-stream
invariant-loop-stream l = l.heat ≡ sum_side l.side (heat_under l.upto_itself l.t) (take l.stream-index l.streams)
