-- Each stream brings its two ends, and one of all ends is tight.
use Rattle.problem_table.proofs.DeficitLemmas.{IsReferencePlace-found, IsSome-highest}
use Rattle.problem_table.proofs.Words.{FindsHighestTight, Stream, high_end, low_end, stream_ends, stream_ends-more, to_z-of_z}
use Rattle.std.proofs.Common.{FitsSigned, List, [], append_assoc, ap₂, rules, subst, sym, take, take_all, w32, ℤ, ◌++◌, ◌∙◌, ◌∷◌}
use Rattle.problem_table.proofs.reference.reference_place_of.Goals as goal

pub loop-stream-preserved : goal.loop-stream-preserved
loop-stream-preserved c =
    let streams = c.args.streams.now in
    let s = c.stream-item.result in
    let ends = stream_ends (take c.loop-stream.stream-index streams) in
    let high_fits : FitsSigned w32 c.high_end.result = search rules in
    let low_fits : FitsSigned w32 c.low_end.result = search rules in
    let high = to_z-of_z w32 c.high_end.result high_fits ∙ c.high_end.ensures.value in
    let low = to_z-of_z w32 c.low_end.result low_fits ∙ c.low_end.ensures.value in
    let first = c.higher_tight-place.ensures ends c.loop-stream.invariant in
    let second = c.higher_tight-place-in-loop-stream.ensures _ first in
    let more = ap₂ (λ (x y : ℤ). (ends ++ x ∷ []) ++ y ∷ []) high low
    ∙ append_assoc ends (high_end s ∷ []) (low_end s ∷ [])
    ∙ sym (stream_ends-more streams c.loop-stream.stream-index s c.loop-stream-test.true c.stream-item.is) in
    subst (λ (xs : List ℤ). FindsHighestTight streams xs c.higher_tight-place-in-loop-stream.result) more second

pub unwrap-requires : goal.unwrap-requires
unwrap-requires c =
    let streams = c.args.streams.now in
    let whole = take_all c.loop-stream.stream-index streams c.loop-stream-test.false in
    IsSome-highest streams c.requires c.loop-stream.place
    (subst (λ (ss : List Stream). FindsHighestTight streams (stream_ends ss) c.loop-stream.place) whole c.loop-stream.invariant)

pub returns : goal.returns
returns c =
    let streams = c.args.streams.now in
    let whole = take_all c.loop-stream.stream-index streams c.loop-stream-test.false in
    let fits : FitsSigned w32 c.unwrap.result = search rules in
    let found = subst (λ (ss : List Stream). FindsHighestTight streams (stream_ends ss) c.loop-stream.place) whole c.loop-stream.invariant in
    rw (to_z-of_z w32 c.unwrap.result fits)
    (IsReferencePlace-found streams c.unwrap.result (subst (FindsHighestTight streams (stream_ends streams)) c.unwrap.ensures found))
