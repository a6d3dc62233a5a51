use Rattle.reports.proofs.TextLemmas.{texts_step}
use Rattle.reports.proofs.Words.{pos, profile_line, slice_index_or, to_z-of_z, ℤ}
use Rattle.std.proofs.Common.{FitsSigned, ap, ap₂, get_or, rules, sym, w32, w64, ℕ, ◌++◌, ◌∙◌}
use Rattle.reports.proofs.total_site.profile_lines.Goals as goal

pub loop-index-preserved : goal.loop-index-preserved
loop-index-preserved c =
    let sinks = c.args.sinks.now in
    let sources = c.args.sources.now in
    let places = c.args.places.now in
    let f = λ (i : ℕ) (place : ℤ). profile_line place (slice_index_or sinks i (pos 0)) (slice_index_or sources i (pos 0)) in
    let i = c.loop-index.index in
    let place = get_or places i (pos 0) in
    let place_fits : FitsSigned w32 place = search rules in
    let sink_fits : FitsSigned w64 c.number_at-sink.result = search rules in
    let source_fits : FitsSigned w64 c.number_at-source.result = search rules in
    let sink = to_z-of_z w64 c.number_at-sink.result sink_fits ∙ c.number_at-sink.ensures in
    let source = to_z-of_z w64 c.number_at-source.result source_fits ∙ c.number_at-source.ensures in
    let at_place = ap (λ p. profile_line p (slice_index_or sinks i (pos 0)) (slice_index_or sources i (pos 0))) (to_z-of_z w32 place place_fits) in
    let line_is = c.in_ok-profile_line.ensures ∙ ap₂ (profile_line _) sink source ∙ at_place in
    c.in_ok-push_str.ensures.bytes
    ∙ ap₂ ◌++◌ c.loop-index.invariant (c.deref.ensures ∙ line_is)
    ∙ sym (texts_step f places i (pos 0) c.loop-index-test.true)
