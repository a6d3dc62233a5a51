-- The points at the temperatures so far.
use Rattle.curves.proofs.Words.{side_points}
use Rattle.std.proofs.Common.{flat_map, take, ◌≡◌}
use Rattle.curves.proofs.composite.side_curve.Given as goal

abbrev pub invariant-loop-t : goal.invariant-loop-t
invariant-loop-t l = l.points ≡ flat_map (side_points l.side l.streams) (take l.t-index l.t-items)
