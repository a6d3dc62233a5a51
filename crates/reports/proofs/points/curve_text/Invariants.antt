use Rattle.reports.proofs.Words.{flat_map, point_line}
use Rattle.std.proofs.Common.{string_bytes, take, ◌≡◌}
use Rattle.reports.proofs.points.curve_text.Given as goal

abbrev pub invariant-loop-point : goal.invariant-loop-point
invariant-loop-point l = string_bytes l.text ≡ flat_map (point_line l.word) (take l.point-index l.curve)
