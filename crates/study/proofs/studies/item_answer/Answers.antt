use Rattle.std.proofs.Common.{FitsSigned, rules, subst₂, w64}
use Rattle.study.proofs.Words.{AreSpanSegments, to_z-of_z}
use Rattle.study.proofs.studies.item_answer.Goals as goal

pub returns-in_ok-segments-in-Span : goal.returns-in_ok-segments-in-Span
returns-in_ok-segments-in-Span c =
    let case = c.args.priced.now.case.now in
    let segments = c.in_ok-segments-in-Span.segments in
    let span = c.in-Span in
    let fits : FitsSigned w64 span.from = search rules in
    let last_fits : FitsSigned w64 span.to = search rules in
    rw c.in-Span.is (subst₂ (λ from to. AreSpanSegments case span.utility from to segments) (to_z-of_z w64 span.from fits)
    (to_z-of_z w64 span.to last_fits) c.in_ok-segments-in-Span.ensures)
