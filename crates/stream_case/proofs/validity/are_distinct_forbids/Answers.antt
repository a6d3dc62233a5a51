use Rattle.std.proofs.Common.{refl, ◌≢◌}
use Rattle.stream_case.proofs.Words.{not_from_Decides}
use Rattle.stream_case.proofs.DistinctLemmas.{AllPairs-all, AllPairs-more, differ_before}
use Rattle.stream_case.proofs.validity.are_distinct_forbids.Goals as goal

pub loop-index-preserved : goal.loop-index-preserved
loop-index-preserved c =
    let new = not_from_Decides _ c.contains_forbid.ensures c.if-contains_forbid.false in
    AllPairs-more (λ f g. f ≢ g) c.args.forbids.now c.loop-index.index c.loop-index-test.true c.loop-index.invariant
    (differ_before c.args.forbids.now c.loop-index.index _ c.loop-index-test.true new)

pub returns : goal.returns
returns c =
    (λ _. AllPairs-all (λ f g. f ≢ g) c.args.forbids.now c.loop-index.index c.loop-index-test.false c.loop-index.invariant, λ _. refl)
