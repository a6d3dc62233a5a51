-- What heat is worth at step prices: additive in the heat, no less for more heat or at higher prices, and that of a part at one price.
use Rattle.price_floor.proofs.Words.{All-head, All-tail, AllPairs-head, AllPairs-tail, AreAtMost, AreFalling, FallTo}
use Rattle.price_floor.proofs.Words.{IsAtMost, Part, Rational, StepPrices, View, comes_below, if◌then◌else◌, ints}
use Rattle.price_floor.proofs.Words.{last_price, minus, minus-interchange, minus-self, plus, plus-interchange}
use Rattle.price_floor.proofs.Words.{plus-times, plus-zero, plus_assoc, plus_comm, rational_sum_by, rational_zero}
use Rattle.price_floor.proofs.Words.{rise_worth, step_worth, times, times-minus, times-plus, times-zero, whole}
use Rattle.price_floor.proofs.Words.{whole-plus, zero-plus, zero-times, ◌+ℤ◌}
use Rattle.std.proofs.Common.{All, AllPairs, List, ap, ap₂, arith, get_or, inl, inr, pos, refl, subst, sym, true, ℤ, []}
use Rattle.std.proofs.Common.{◌+◌, ◌-ℤ◌, ◌∙◌, ◌∷◌, ◌≡◌, ◌≤ℤ◌}
use Rattle.fractions.proofs.Comparisons.{at_most-plus_plus, at_most-plus_right, at_most-times_left, at_most-whole}
use Rattle.fractions.proofs.Comparisons.{at_most_from_same, at_most_refl, at_most_trans, not_negative-times}
use Rattle.price_floor.proofs.ViewLemmas.{LeavesAt, stands}

-- ---- sums and differences of heat

module _ (below : View → ℤ) where
  rise-same : (above : ℤ) (f g : View → Rational) (views : List View) → All (λ v. f v ≡ g v) views
      → rise_worth above below f views ≡ rise_worth above below g views
  rise-same above f g [] same = refl
  rise-same above f g (v ∷ views) same =
      ap₂ plus (ap (times (whole (above -ℤ below v))) (All-head (λ w. f w ≡ g w) v views same))
      (rise-same (below v) f g views (All-tail (λ w. f w ≡ g w) v views same))

  rise-none : (above : ℤ) (views : List View) → rise_worth above below (λ v. rational_zero) views ≡ rational_zero
  rise-none above [] = refl
  rise-none above (v ∷ views) =
      ap₂ plus (times-zero (whole (above -ℤ below v))) (rise-none (below v) views) ∙ plus-zero rational_zero

rise_worth-plus : (above : ℤ) (below : View → ℤ) (x y : View → Rational) (views : List View)
    → rise_worth above below (λ v. plus (x v) (y v)) views
    ≡ plus (rise_worth above below x views) (rise_worth above below y views)
rise_worth-plus above below x y [] = sym (plus-zero rational_zero)
rise_worth-plus above below x y (v ∷ views) =
    let rise = whole (above -ℤ below v) in
    ap₂ plus (times-plus rise (x v) (y v)) (rise_worth-plus (below v) below x y views)
    ∙ plus-interchange (times rise (x v)) (times rise (y v)) (rise_worth (below v) below x views) (rise_worth (below v) below y views)

rise_worth-minus : (above : ℤ) (below : View → ℤ) (x y : View → Rational) (views : List View)
    → rise_worth above below (λ v. minus (x v) (y v)) views
    ≡ minus (rise_worth above below x views) (rise_worth above below y views)
rise_worth-minus above below x y [] = sym (minus-self rational_zero)
rise_worth-minus above below x y (v ∷ views) =
    let rise = whole (above -ℤ below v) in
    let first = rise_worth (below v) below x views in
    let second = rise_worth (below v) below y views in
    ap₂ plus (times-minus rise (x v) (y v)) (rise_worth-minus (below v) below x y views)
    ∙ sym (minus-interchange (times rise (x v)) first (times rise (y v)) second)

module _ (least : ℤ) (views : List View) (p : StepPrices) where
  pub step_worth-same : (a b : Rational) (x y : View → Rational) → a ≡ b → ((v : View) → x v ≡ y v)
      → step_worth least views p a x ≡ step_worth least views p b y
  step_worth-same a b x y all same =
      ap₂ plus (ap (times (whole least)) all) (rise-same p.below p.top x y views (λ k d within. same (get_or views k d)))

  pub step_worth-plus : (a b : Rational) (x y : View → Rational)
      → step_worth least views p (plus a b) (λ v. plus (x v) (y v))
      ≡ plus (step_worth least views p a x) (step_worth least views p b y)
  step_worth-plus a b x y =
      let first = rise_worth p.top p.below x views in
      let second = rise_worth p.top p.below y views in
      ap₂ plus (times-plus (whole least) a b) (rise_worth-plus p.top p.below x y views)
      ∙ plus-interchange (times (whole least) a) (times (whole least) b) first second

  pub step_worth-minus : (a b : Rational) (x y : View → Rational)
      → step_worth least views p (minus a b) (λ v. minus (x v) (y v))
      ≡ minus (step_worth least views p a x) (step_worth least views p b y)
  step_worth-minus a b x y =
      let first = rise_worth p.top p.below x views in
      let second = rise_worth p.top p.below y views in
      ap₂ plus (times-minus (whole least) a b) (rise_worth-minus p.top p.below x y views)
      ∙ sym (minus-interchange (times (whole least) a) first (times (whole least) b) second)

-- ---- more heat

not_negative-fall : (above below : ℤ) → below ≤ℤ above → IsAtMost rational_zero (whole (above -ℤ below))
not_negative-fall above below falls = at_most-whole (pos 0) (above -ℤ below) (omega (arith, ints, falls))

rise_worth-at_most : (above : ℤ) (below : View → ℤ) (x y : View → Rational) (views : List View)
    → AreFalling above below views
    → ((v : View) → IsAtMost (x v) (y v)) → IsAtMost (rise_worth above below x views) (rise_worth above below y views)
rise_worth-at_most above below x y [] falls more = at_most_refl rational_zero
rise_worth-at_most above below x y (v ∷ views) falls more =
    let rise = not_negative-fall above (below v) falls.0 in
    at_most-plus_plus _ _ _ _ (at_most-times_left (whole (above -ℤ below v)) (x v) (y v) rise (more v))
    (rise_worth-at_most (below v) below x y views falls.1 more)

pub step_worth-at_most : (least : ℤ) (views : List View) (p : StepPrices) → FallTo least views p
    → (a : Rational) (x y : View → Rational)
    → ((v : View) → IsAtMost (x v) (y v)) → IsAtMost (step_worth least views p a x) (step_worth least views p a y)
step_worth-at_most least views p falls a x y more =
    let rises = rise_worth-at_most p.top p.below x y views falls.falling more in
    at_most-plus_plus _ _ _ _ (at_most_refl (times (whole least) a)) rises

-- ---- higher prices

-- heat is no less in views that see more
abbrev pub AreRising : (View → Rational) → Type 0
AreRising x = (v w : View) → comes_below v w → IsAtMost (x v) (x w)

-- from one price to another by way of a third
pub two_steps : (a b c : ℤ) (x : Rational)
    → plus (times (whole (a -ℤ b)) x) (times (whole (b -ℤ c)) x) ≡ times (whole (a -ℤ c)) x
two_steps a b c x =
    sym (plus-times (whole (a -ℤ b)) (whole (b -ℤ c)) x)
    ∙ ap (λ rise. times rise x) (whole-plus (a -ℤ b) (b -ℤ c) ∙ ap whole (omega (arith, ints)))

-- the same heat at the rises of both prices, with what the second ones are above the first ones
shifted_rises : (p q p_next q_next : ℤ) (x rest : Rational)
    → plus (plus (times (whole (p -ℤ p_next)) x) rest) (times (whole (q -ℤ p)) x)
    ≡ plus (times (whole (q -ℤ q_next)) x) (plus rest (times (whole (q_next -ℤ p_next)) x))
shifted_rises p q p_next q_next x rest =
    let here = times (whole (p -ℤ p_next)) x in
    let higher = times (whole (q -ℤ p)) x in
    let first = times (whole (q -ℤ q_next)) x in
    let next = times (whole (q_next -ℤ p_next)) x in
    plus_comm (plus here rest) higher ∙ sym (plus_assoc higher here rest)
    ∙ ap (λ y. plus y rest) (two_steps q p p_next x ∙ sym (two_steps q q_next p_next x))
    ∙ plus_assoc first next rest ∙ ap (plus first) (plus_comm next rest)

module _ (least : ℤ) (p q : View → ℤ) (x : View → Rational) (more : (v : View) → p v ≤ℤ q v) (rising : AreRising x) where
  -- prices that fall to the same one: at the higher prices the heat is worth more, at least by what they are higher at the
  -- top for as much heat as each view sees
  rise_worth-ordered : (p_top q_top : ℤ) (c : Rational) (views : List View) → p_top ≤ℤ q_top
      → last_price p_top p views ≡ least → last_price q_top q views ≡ least → AllPairs comes_below views
      → All (λ v. IsAtMost c (x v)) views
      → IsAtMost (plus (rise_worth p_top p x views) (times (whole (q_top -ℤ p_top)) c)) (rise_worth q_top q x views)
  rise_worth-ordered p_top q_top c [] higher p_last q_last pairs seen =
      let level : q_top -ℤ p_top ≡ pos 0 = omega (arith, ints, p_last, q_last) in
      at_most_from_same _ _ (zero-plus _ ∙ ap (λ n. times (whole n) c) level ∙ zero-times c)
  rise_worth-ordered p_top q_top c (v ∷ views) higher p_last q_last pairs seen =
      let above_next : All (λ w. IsAtMost (x v) (x w)) views
      = λ k d within. rising v (get_or views k d) (AllPairs-head comes_below v views pairs k d within) in
      let later = AllPairs-tail comes_below v views pairs in
      let rest = rise_worth-ordered (p v) (q v) (x v) views (more v) p_last q_last later above_next in
      let first = All-head (λ w. IsAtMost c (x w)) v views seen in
      let here = at_most-times_left (whole (q_top -ℤ p_top)) c (x v) (not_negative-fall q_top p_top higher) first in
      let moved = shifted_rises p_top q_top (p v) (q v) (x v) (rise_worth (p v) p x views) in
      at_most_trans _ _ _ (at_most-plus_plus _ _ _ _ (at_most_refl (rise_worth p_top p x (v ∷ views))) here)
      (subst (λ y. IsAtMost y (rise_worth q_top q x (v ∷ views))) (sym moved)
      (at_most-plus_plus _ _ _ _ (at_most_refl (times (whole (q_top -ℤ q v)) (x v))) rest))

pub step_worth-ordered : (least : ℤ) (views : List View) (p q : StepPrices) → FallTo least views p
    → FallTo least views q → AreAtMost p q
    → AllPairs comes_below views → (a : Rational) (x : View → Rational) → AreRising x
    → ((v : View) → IsAtMost rational_zero (x v))
    → IsAtMost (step_worth least views p a x) (step_worth least views q a x)
step_worth-ordered least views p q p_falls q_falls more pairs a x rising some =
    let no_heat = times (whole (q.top -ℤ p.top)) rational_zero in
    let none : IsAtMost rational_zero no_heat
    = not_negative-times _ _ (not_negative-fall q.top p.top more.top) (at_most_refl rational_zero) in
    let with_none = at_most-plus_right (rise_worth p.top p.below x views) no_heat none in
    let rises = rise_worth-ordered least p.below q.below x more.below rising p.top q.top rational_zero views more.top
    p_falls.last q_falls.last pairs (λ k d within. some (get_or views k d)) in
    at_most-plus_plus _ _ _ _ (at_most_refl (times (whole least) a)) (at_most_trans _ _ _ with_none rises)

-- Sums of what heats are worth at step prices; and the one price at which the heat of a part is worth it.

-- ---- heat at step prices

module _ (least : ℤ) (views : List View) (q : StepPrices) where
  pub step-same : (all some : Rational) (f g : View → Rational) → all ≡ some → All (λ v. f v ≡ g v) views
      → step_worth least views q all f ≡ step_worth least views q some g
  step-same all some f g one same = ap₂ plus (ap (times (whole least)) one) (rise-same q.below q.top f g views same)

  pub step-none : step_worth least views q rational_zero (λ v. rational_zero) ≡ rational_zero
  step-none = ap₂ plus (times-zero (whole least)) (rise-none q.below q.top views) ∙ plus-zero rational_zero

  pub step-sum : {X : Type 0} (all : X → Rational) (heat : X → View → Rational) (xs : List X)
      → rational_sum_by (λ x. step_worth least views q (all x) (heat x)) xs
      ≡ step_worth least views q (rational_sum_by all xs) (λ v. rational_sum_by (λ x. heat x v) xs)
  step-sum all heat [] = sym step-none
  step-sum all heat (x ∷ xs) = ap (plus (step_worth least views q (all x) (heat x))) (step-sum all heat xs)
      ∙ sym (step_worth-plus least views q (all x) (rational_sum_by all xs) (heat x) (λ v. rational_sum_by (λ y. heat y v) xs))

-- ---- a part

-- a heat at the views that the part stands above
abbrev pub stood : Part → Rational → View → Rational
stood p heat v = if stands p v then heat else rational_zero

module _ (p : Part) (x : Rational) (below : View → ℤ) where
  rise-all : (above : ℤ) (views : List View) → All (λ v. stands p v ≡ true) views
      → rise_worth above below (stood p x) views ≡ times (whole (above -ℤ last_price above below views)) x
  rise-all above [] all =
      let none : pos 0 ≡ above -ℤ above = omega (arith, ints) in
      sym (zero-times x) ∙ ap (λ n. times (whole n) x) none
  rise-all above (v ∷ views) all =
      let first = All-head (λ w. stands p w ≡ true) v views all in
      ap₂ plus (ap (λ b. times (whole (above -ℤ below v)) (if b then x else rational_zero)) first)
      (rise-all (below v) views (All-tail (λ w. stands p w ≡ true) v views all))
      ∙ two_steps above (below v) (last_price (below v) below views) x

  rise-leaves : (own : View) (above : ℤ) (views : List View) → LeavesAt p own views
      → rise_worth above below (stood p x) views ≡ times (whole (below own -ℤ last_price above below views)) x
  rise-leaves own above [] leaves = absurd leaves
  rise-leaves own above (v ∷ views) (under, inl (is, all)) =
      let rise = whole (above -ℤ below v) in
      ap₂ plus (ap (λ b. times rise (if b then x else rational_zero)) under ∙ times-zero rise)
      (rise-all (below v) views all) ∙ zero-plus (times (whole (below v -ℤ last_price (below v) below views)) x)
      ∙ ap (λ w. times (whole (below w -ℤ last_price (below v) below views)) x) is
  rise-leaves own above (v ∷ views) (under, inr later) =
      let rise = whole (above -ℤ below v) in
      ap₂ plus (ap (λ b. times rise (if b then x else rational_zero)) under ∙ times-zero rise)
      (rise-leaves own (below v) views later)
      ∙ zero-plus (times (whole (below own -ℤ last_price (below v) below views)) x)

-- the heat of a part is worth the price below the last view that the part does not stand above
pub step-part : (least : ℤ) (views : List View) (q : StepPrices) (p : Part) (own : View) (x : Rational)
    → last_price q.top q.below views ≡ least
    → LeavesAt p own views → step_worth least views q x (stood p x) ≡ times (whole (q.below own)) x
step-part least views q p own x last leaves =
    let total : least +ℤ (q.below own -ℤ least) ≡ q.below own = omega (arith, ints) in
    let rises = rise-leaves p x q.below own q.top views leaves in
    ap (plus (times (whole least) x)) (rises ∙ ap (λ n. times (whole (q.below own -ℤ n)) x) last)
    ∙ sym (plus-times (whole least) (whole (q.below own -ℤ least)) x)
    ∙ ap (λ y. times y x) (whole-plus least (q.below own -ℤ least) ∙ ap whole total)
