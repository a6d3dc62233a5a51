use Rattle.reports.proofs.Words.{pos, profile_line, slice_index_or, texts_from}
use Rattle.std.proofs.Common.{string_bytes, take, ◌≡◌}
use Rattle.reports.proofs.total_site.profile_lines.Given as goal

abbrev pub invariant-loop-index : goal.invariant-loop-index
invariant-loop-index l =
    string_bytes l.text ≡ texts_from (λ i place. profile_line place (slice_index_or l.sinks i (pos 0)) (slice_index_or l.sources i (pos 0))) 0
    (take l.index l.places)
