-- The heat of the side's streams so far.
use Rattle.vertical_design.proofs.Words.{heat_below, sum_side}
use Rattle.std.proofs.Common.{take, ◌≡◌}
use Rattle.vertical_design.proofs.curve.side_heat_below.Given as goal

abbrev pub invariant-loop-stream : goal.invariant-loop-stream
invariant-loop-stream l = l.heat ≡ sum_side l.side (heat_below l.t) (take l.stream-index l.streams)
