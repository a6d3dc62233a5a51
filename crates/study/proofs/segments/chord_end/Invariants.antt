use Rattle.std.proofs.Common.{◌≡◌}
use Rattle.study.proofs.Words.{CostsWith, chord_at, pos, unsigned_abs, ◌+ℤ◌, ◌-ℤ◌, ◌<ℤ◌, ◌≤ℤ◌}
use Rattle.study.proofs.segments.chord_end.Given as goal

abbrev pub invariant-loop-off : goal.invariant-loop-off
invariant-loop-off l = record {
  ahead : (l.chord.from +ℤ pos 1) ≤ℤ l.on;
  order : l.on <ℤ l.off;
  last : l.off ≤ℤ (l.to +ℤ pos 1);
  inside : CostsWith l.fn.curve.curve.case l.fn.curve.curve.utility l.on (chord_at l.chord l.on);
  outside : l.off ≤ℤ l.to → CostsWith l.fn.curve.curve.case l.fn.curve.curve.utility l.off (chord_at l.chord l.off) → ⊥;
  same : l.curve.curve ≡ l.fn.curve.curve;
}

abbrev pub decreases-loop-off : goal.decreases-loop-off
decreases-loop-off l = unsigned_abs (l.off -ℤ l.on)
