use Rattle.reports.proofs.Words.{item_lines, iter_rest, zip_first, zip_second}
use Rattle.std.proofs.Common.{string_bytes, ◌++◌, ◌≡◌}
use Rattle.reports.proofs.prices.item_lines.Given as goal

-- what is written is followed by what is left to be written
abbrev pub invariant-loop-item : goal.invariant-loop-item
invariant-loop-item l =
    string_bytes l.text ++ item_lines l.names (iter_rest (zip_first l.item-iterator)) (iter_rest (zip_second l.item-iterator))
    ≡ item_lines l.names l.items l.answers
