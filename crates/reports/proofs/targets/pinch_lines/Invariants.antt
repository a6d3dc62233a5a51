use Rattle.reports.proofs.Words.{flat_map, line}
use Rattle.std.proofs.Common.{codes, string_bytes, take, ◌≡◌}
use Rattle.reports.proofs.targets.pinch_lines.Given as goal

abbrev pub invariant-loop-pinch : goal.invariant-loop-pinch
invariant-loop-pinch l = string_bytes l.text ≡ flat_map (line (codes "pinch")) (take l.pinch-index l.pinches)
