-- Each stream brings the deficits at its two ends.
use Rattle.problem_table.proofs.DeficitLemmas.{greatest_deficit-more}
use Rattle.problem_table.proofs.Words.{Stream, deficit_over, int_max, stream_ends, to_z-of_z}
use Rattle.std.proofs.Common.{FitsSigned, List, ap, fold, map, pos, rules, take_all, w32, w64, ◌∙◌}
use Rattle.problem_table.proofs.target.greatest_deficit.Goals as goal

pub loop-stream-preserved : goal.loop-stream-preserved
loop-stream-preserved c =
    let streams = c.args.streams.now in
    let deficit = deficit_over c.args.from_itself streams in
    let high_fits : FitsSigned w32 c.high_end.result = search rules in
    let low_fits : FitsSigned w32 c.low_end.result = search rules in
    let first_fits : FitsSigned w64 c.deficit_over.result = search rules in
    let second_fits : FitsSigned w64 c.deficit_over-in-loop-stream.result = search rules in
    let max_fits : FitsSigned w64 c.max.result = search rules in
    let greatest_fits : FitsSigned w64 c.max-greatest.result = search rules in
    let first = to_z-of_z w64 _ first_fits ∙ c.deficit_over.ensures.value
    ∙ ap deficit (to_z-of_z w32 _ high_fits ∙ c.high_end.ensures.value) in
    let second = to_z-of_z w64 _ second_fits ∙ c.deficit_over-in-loop-stream.ensures.value
    ∙ ap deficit (to_z-of_z w32 _ low_fits ∙ c.low_end.ensures.value) in
    let greater = to_z-of_z w64 _ max_fits ∙ c.max.ensures.value in
    let greatest = to_z-of_z w64 _ greatest_fits ∙ c.max-greatest.ensures.value in
    let so_far = c.loop-stream.invariant in
    let step = greatest_deficit-more c.args.from_itself streams c.loop-stream.stream-index c.stream-item.result
    c.loop-stream-test.true c.stream-item.is in
    cc

pub returns : goal.returns
returns c =
    let streams = c.args.streams.now in
    let whole = take_all c.loop-stream.stream-index streams c.loop-stream-test.false in
    c.loop-stream.invariant
    ∙ ap (λ (ss : List Stream). fold int_max (pos 0)
    (map (deficit_over c.args.from_itself streams) (stream_ends ss))) whole
