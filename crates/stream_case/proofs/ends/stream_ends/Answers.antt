-- Two pushes add the two ends of a stream.
use Rattle.std.proofs.Common.{FitsSigned, [], append_assoc, rules, w32, ◌∙◌, ◌∷◌}
use Rattle.stream_case.proofs.Words.{to_z-of_z}
use Rattle.stream_case.proofs.EndLemmas.{stream_ends-more}
use Rattle.stream_case.proofs.ends.stream_ends.Goals as goal

pub loop-stream-preserved : goal.loop-stream-preserved
loop-stream-preserved c =
    let s = c.stream-item.result in
    let high_fits : FitsSigned w32 c.high_end.result = search rules in
    let low_fits : FitsSigned w32 c.low_end.result = search rules in
    let high = to_z-of_z w32 c.high_end.result high_fits ∙ c.high_end.ensures.value in
    let low = to_z-of_z w32 c.low_end.result low_fits ∙ c.low_end.ensures.value in
    let step = stream_ends-more c.args.streams.now c.loop-stream.stream-index s c.loop-stream-test.true c.stream-item.is in
    let joined = append_assoc c.loop-stream.ends.items (c.high_end.result ∷ []) (c.low_end.result ∷ []) in
    let first = c.in_ok-push.ensures.items in
    let second = c.in_ok-push-2.ensures.items in
    let so_far = c.loop-stream.invariant in
    cc
