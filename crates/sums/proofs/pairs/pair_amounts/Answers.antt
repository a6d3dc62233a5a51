use Rattle.std.proofs.Common.{FitsSigned, ap₂, inl, inr, of_z, rules, subst, sym, to_z, w64, ℤ, ◌∙◌, ◌≡◌}
use Rattle.sums.proofs.Words.{int_min, to_z-of_z}
use Rattle.sums.proofs.WalkLemmas.{IsWalk, IsWalk-more, IsWalk-none, ListsOverlaps-walk, within_both}
use Rattle.sums.proofs.pairs.pair_amounts.Goals.{else-loop-first-test, then-loop-first-test+else-second-seconds}
use Rattle.sums.proofs.pairs.pair_amounts.Goals as goal

-- the lesser of two numbers, as it is read
lesser : (x y l r m : ℤ) → FitsSigned w64 l → FitsSigned w64 r → FitsSigned w64 m → l ≡ x → r ≡ y
    → m ≡ int_min (to_z w64 (of_z w64 l)) (to_z w64 (of_z w64 r))
    → to_z w64 (of_z w64 m) ≡ int_min x y
lesser x y l r m fits_l fits_r fits_m one two min =
    to_z-of_z w64 m fits_m ∙ min ∙ ap₂ int_min (to_z-of_z w64 l fits_l ∙ one) (to_z-of_z w64 r fits_r ∙ two)

pub loop-first-init : goal.loop-first-init
loop-first-init c = subst (IsWalk c.args.firsts.now c.args.seconds.now _ _) (sym c.new-pairs.ensures.items)
    (IsWalk-none c.args.firsts.now c.args.seconds.now c.requires.firsts c.requires.seconds)

pub after-first-requires-clause-more : goal.after-first-requires-clause-more
after-first-requires-clause-more c =
    (within_both _ _ _ _ _ _
    (lesser _ _ _ _ _ (search rules) (search rules)
    (search rules) c.left.ensures c.left-in-loop-first.ensures c.min-amount.ensures.value) c.loop-first.invariant).0

pub after-second-requires-clause-more : goal.after-second-requires-clause-more
after-second-requires-clause-more c =
    (within_both _ _ _ _ _ _
    (lesser _ _ _ _ _ (search rules) (search rules)
    (search rules) c.left.ensures c.left-in-loop-first.ensures c.min-amount.ensures.value) c.loop-first.invariant).1

pub loop-first-smaller : goal.loop-first-smaller
loop-first-smaller c =
    let is = lesser _ _ _ _ _ (search rules) (search rules) (search rules) c.left.ensures c.left-in-loop-first.ensures c.min-amount.ensures.value in
    let step =
    IsWalk-more c.args.firsts.now c.args.seconds.now c.requires.firsts c.requires.seconds _ _ _ _ c.loop-first-test.true c.if-second-seconds.true is
    c.loop-first.invariant in
    rw (c.after-first.ensures, c.after-second.ensures) step.nearer

pub loop-first-preserved : goal.loop-first-preserved
loop-first-preserved c =
    let is = lesser _ _ _ _ _ (search rules) (search rules) (search rules) c.left.ensures c.left-in-loop-first.ensures c.min-amount.ensures.value in
    let step =
    IsWalk-more c.args.firsts.now c.args.seconds.now c.requires.firsts c.requires.seconds _ _ _ _ c.loop-first-test.true c.if-second-seconds.true is
    c.loop-first.invariant in
    rw (c.after-first.ensures, c.after-second.ensures, c.in_ok-push_positive.ensures.pairs) step.walk

pub returns : goal.returns
returns c =
    let overlaps =
    ListsOverlaps-walk c.args.firsts.now c.args.seconds.now c.requires.firsts c.requires.seconds c.loop-first.first c.loop-first.second c.loop-first.pairs.items
    in
    elim c.loop-first-test.branch [
      | then-loop-first-test+else-second-seconds w ↦ overlaps (inr w.if-second-seconds.false) c.loop-first.invariant
      | else-loop-first-test w ↦ overlaps (inl w.loop-first-test.false) c.loop-first.invariant
    ]
