use Rattle.reports.proofs.Words.{flat_map, member_line}
use Rattle.std.proofs.Common.{string_bytes, take, ◌≡◌}
use Rattle.reports.proofs.cut.member_lines.Given as goal

abbrev pub invariant-loop-index : goal.invariant-loop-index
invariant-loop-index l = string_bytes l.text ≡ flat_map (member_line l.names l.parts) (take l.index-index l.members)
