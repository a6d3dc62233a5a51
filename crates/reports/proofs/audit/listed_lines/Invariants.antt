use Rattle.reports.proofs.Words.{flat_map, penalty_line}
use Rattle.std.proofs.Common.{string_bytes, take, ◌≡◌}
use Rattle.reports.proofs.audit.listed_lines.Given as goal

abbrev pub invariant-loop-penalty : goal.invariant-loop-penalty
invariant-loop-penalty l = string_bytes l.text ≡ flat_map (penalty_line l.names) (take l.penalty-index l.penalties)
