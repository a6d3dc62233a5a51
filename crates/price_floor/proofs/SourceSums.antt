-- Sums over parts and exchangers by the sources of the case, and what the use of a part is worth.
use Rattle.price_floor.proofs.Words.{All-contains, All-head, All-tail, AllPairs-head, AllPairs-tail, Case}
use Rattle.price_floor.proofs.Words.{Contains-cons, IsSourceOf, Network, Part, Rational, Side, Source, Stream, Tariff}
use Rattle.price_floor.proofs.Words.{Utility, comes_before, comes_before_source, enumerate_from, if◌then◌else◌, ints}
use Rattle.price_floor.proofs.Words.{plus, plus-zero, rational_sum_by, rational_sum_by-plus, rational_sum_by-same}
use Rattle.price_floor.proofs.Words.{rational_sum_by-swap, rational_sum_by-zero, rational_zero, same_source, step_worth}
use Rattle.price_floor.proofs.Words.{sum-picked, used_heat, zero-plus}
use Rattle.std.proofs.Common.{All, AllPairs, Contains, List, [], ap, ap₂, arith, get_or, inl, inr, refl, sym, ⊎_elim, ◌∙◌}
use Rattle.std.proofs.Common.{◌∷◌, ◌≡◌, ◌≢◌, ◌⊎◌}
use Rattle.stream_case.specs.declared.source.Source.TheVariants as source
use Rattle.price_floor.proofs.StepLemmas.{stood}

-- ---- worths of uses

-- the use of a part at the step prices of its source
abbrev pub part_worth : Tariff → Network → Side → Part → Rational
part_worth tariff network on p =
    step_worth tariff.least tariff.views (tariff.prices on p.source) (used_heat network p) (stood p (used_heat network p))

-- the same of the parts of one source
abbrev pub own_worth : Tariff → Network → Side → Source → Part → Rational
own_worth tariff network on s p =
    if same_source p.source s then part_worth tariff network on p else rational_zero

-- a sum that has but one term
pub sum-single : {X : Type 0} (f : X → Rational) (xs : List X) (x : X) → AllPairs (λ a b. a ≢ b) xs → Contains xs x
    → All (λ y. y ≢ x → f y ≡ rational_zero) xs → rational_sum_by f xs ≡ f x
sum-single f [] x distinct (k, within, is) none = absurd (omega (arith, within))
sum-single {X} f (y ∷ ys) x distinct found none =
    ⊎_elim here (λ inside. later inside (sum-single f ys x (AllPairs-tail (λ a b. a ≢ b) y ys distinct) inside
    (All-tail (λ z. z ≢ x → f z ≡ rational_zero) y ys none))) (Contains-cons y ys x found)
  where
    others : All (λ z. y ≢ z) ys
    others = AllPairs-head (λ a b. a ≢ b) y ys distinct

    here : y ≡ x → rational_sum_by f (y ∷ ys) ≡ f x
    here same = ap (plus (f y)) (rational_sum_by-zero f ys
        (λ k d within. All-tail (λ z. z ≢ x → f z ≡ rational_zero) y ys none k d within (λ is. others k d within (same ∙ sym is))))
        ∙ plus-zero (f y) ∙ ap f same

    later : Contains ys x → rational_sum_by f ys ≡ f x → rational_sum_by f (y ∷ ys) ≡ f x
    later inside rest =
        ap₂ plus (All-head (λ z. z ≢ x → f z ≡ rational_zero) y ys none (All-contains (λ z. y ≢ z) ys x others inside)) rest
        ∙ zero-plus (f x)

-- ---- by sources

-- the terms of one source
abbrev pub of_source : {X : Type 0} → (X → Source) → (X → Rational) → Source → X → Rational
of_source of f s x = if same_source (of x) s then f x else rational_zero

module _ (case : Case) where
  -- a number beside each source that is this one
  one_source : (s : Source) (a : Rational) → IsSourceOf case s
      → a
      ≡ plus (rational_sum_by (λ e. if same_source s (source.Stream e.0) then a else rational_zero) (enumerate_from 0 case.streams))
      (rational_sum_by (λ e. if same_source s (source.Utility e.0) then a else rational_zero) (enumerate_from 0 case.utilities))
  one_source (source.Stream i) a within = sym (plus-zero a) ∙ ap₂ plus (sym (sum-picked i a case.streams within))
      (sym (rational_sum_by-zero (λ e. rational_zero) (enumerate_from 0 case.utilities) (λ k d inside. refl)))
  one_source (source.Utility i) a within =
      sym (zero-plus a)
      ∙ ap₂ plus (sym (rational_sum_by-zero (λ e. rational_zero) (enumerate_from 0 case.streams) (λ k d inside. refl)))
      (sym (sum-picked i a case.utilities within))

  pub sum-by_source : {X : Type 0} (of : X → Source) (f : X → Rational) (xs : List X)
      → All (λ x. IsSourceOf case (of x)) xs → rational_sum_by f xs
      ≡ plus (rational_sum_by (λ e. rational_sum_by (of_source of f (source.Stream e.0)) xs) (enumerate_from 0 case.streams))
      (rational_sum_by (λ e. rational_sum_by (of_source of f (source.Utility e.0)) xs) (enumerate_from 0 case.utilities))
  sum-by_source {X} of f xs each =
      let streams = enumerate_from 0 case.streams in
      let utilities = enumerate_from 0 case.utilities in
      let by_streams = λ (x : X). rational_sum_by (λ e. of_source of f (source.Stream e.0) x) streams in
      let by_utilities = λ (x : X). rational_sum_by (λ e. of_source of f (source.Utility e.0) x) utilities in
      rational_sum_by-same f (λ x. plus (by_streams x) (by_utilities x)) xs
      (λ k d within. one_source (of (get_or xs k d)) (f (get_or xs k d)) (each k d within))
      ∙ rational_sum_by-plus by_streams by_utilities xs
      ∙ ap₂ plus (rational_sum_by-swap (λ x e. of_source of f (source.Stream e.0) x) xs streams)
      (rational_sum_by-swap (λ x e. of_source of f (source.Utility e.0) x) xs utilities)

-- ---- parts are distinct

before_source-not : (a b : Source) → comes_before_source a b → a ≢ b
before_source-not (source.Stream i) (source.Stream j) h same = absurd (let is : i ≡ j = cc in omega (arith, is))
before_source-not (source.Stream i) (source.Utility j) h same = absurd (cc)
before_source-not (source.Utility i) (source.Stream j) h same = h
before_source-not (source.Utility i) (source.Utility j) h same = absurd (let is : i ≡ j = cc in omega (arith, is))

pub before-not : (p q : Part) → comes_before p q → p ≢ q
before-not p q (inl h) same = absurd (let is : p.high ≡ q.high = ap (λ (r : Part). r.high) same in omega (arith, ints))
before-not p q (inr (inl h)) same =
    absurd (let is : p.low ≡ q.low = ap (λ (r : Part). r.low) same in omega (arith, ints))
before-not p q (inr (inr h)) same = before_source-not p.source q.source h.2 (ap (λ (r : Part). r.source) same)
