use Rattle.reports.proofs.Words.{texts_from, use_line}
use Rattle.std.proofs.Common.{string_bytes, take, ◌≡◌}
use Rattle.reports.proofs.flow.use_lines.Given as goal

abbrev pub invariant-loop-index : goal.invariant-loop-index
invariant-loop-index l =
    string_bytes l.text ≡ texts_from (use_line l.parts l.transfers) 0 (take l.index l.utility-items)
