use Rattle.std.proofs.Common.{◌≡◌}
use Rattle.study.proofs.Words.{AreSegments, pos, unsigned_abs, ◌+ℤ◌, ◌-ℤ◌, ◌≤ℤ◌}
use Rattle.study.proofs.segments.curve_segments.Given as goal

abbrev pub invariant-loop-next : goal.invariant-loop-next
invariant-loop-next l = record {
  from : l.fn.from ≤ℤ l.next;
  upto : l.next ≤ℤ (l.to +ℤ pos 1);
  segments : AreSegments l.fn.curve.curve.case l.fn.curve.curve.utility l.to l.fn.from l.next l.segments;
  same : l.curve.curve ≡ l.fn.curve.curve;
}

abbrev pub decreases-loop-next : goal.decreases-loop-next
decreases-loop-next l = unsigned_abs (l.to +ℤ pos 1 -ℤ l.next)
