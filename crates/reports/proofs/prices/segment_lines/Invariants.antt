use Rattle.reports.proofs.Words.{flat_map, segment_line}
use Rattle.std.proofs.Common.{string_bytes, take, ◌≡◌}
use Rattle.reports.proofs.prices.segment_lines.Given as goal

abbrev pub invariant-loop-segment : goal.invariant-loop-segment
invariant-loop-segment l = string_bytes l.text ≡ flat_map (segment_line l.words) (take l.segment-index l.segments)
