use Rattle.std.proofs.Common.{[], ap, arith, length, refl, ◌<◌, ◌≢◌, ◌≤◌}
use Rattle.stream_case.proofs.CaseLemmas.{length-names_of}
use Rattle.stream_case.proofs.DistinctLemmas.{AllPairs-all, AllPairs-more, differ_at}
use Rattle.stream_case.proofs.Words.{names_of, with_utilities}
use Rattle.stream_case.proofs.validity.has_distinct_names.Goals as goal

pub loop-index-preserved : goal.loop-index-preserved
loop-index-preserved c =
    let k = with_utilities c.args.case.now c.args.utilities.now in
    let count = length-names_of k in
    let same = ap length c.as_slice-streams.ensures in
    let within : c.loop-index.index < length (names_of k) = omega arith in
    let new = c.is_new_name.ensures.0 c.if-not-is_new_name.false in
    AllPairs-more (λ a b. a ≢ b) (names_of k) c.loop-index.index within c.loop-index.invariant
    (λ i d early. differ_at (names_of k) i c.loop-index.index [] early within (new i early) d)

pub returns : goal.returns
returns c =
    let k = with_utilities c.args.case.now c.args.utilities.now in
    let count = length-names_of k in
    let same = ap length c.as_slice-streams.ensures in
    let past : length (names_of k) ≤ c.loop-index.index = omega arith in
    (λ _. AllPairs-all (λ a b. a ≢ b) (names_of k) c.loop-index.index past c.loop-index.invariant, λ _. refl)
