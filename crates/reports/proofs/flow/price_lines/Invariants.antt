use Rattle.reports.proofs.Words.{price_at, price_line, texts_from}
use Rattle.std.proofs.Common.{string_bytes, take, ◌≡◌}
use Rattle.reports.proofs.flow.price_lines.Given as goal

abbrev pub invariant-loop-index : goal.invariant-loop-index
invariant-loop-index l =
    string_bytes l.text ≡ texts_from (λ i p. price_line l.names l.side (price_at l.prices i) p) 0 (take l.index l.part-items)
