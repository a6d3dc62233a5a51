use Rattle.reports.proofs.Words.{flat_map, move_line}
use Rattle.std.proofs.Common.{string_bytes, take, ◌≡◌}
use Rattle.reports.proofs.flow.move_lines.Given as goal

abbrev pub invariant-loop-transfer : goal.invariant-loop-transfer
invariant-loop-transfer l =
    string_bytes l.text ≡ flat_map (move_line l.names l.parts) (take l.transfer-index l.transfers)
