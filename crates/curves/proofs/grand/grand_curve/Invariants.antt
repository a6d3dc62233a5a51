-- The points at the places so far.
use Rattle.curves.proofs.Words.{grand_points}
use Rattle.std.proofs.Common.{flat_map, take, ◌≡◌}
use Rattle.curves.proofs.grand.grand_curve.Given as goal

abbrev pub invariant-loop-t : goal.invariant-loop-t
invariant-loop-t l = l.points ≡ flat_map (grand_points l.case.streams) (take l.t-index l.t-items)
