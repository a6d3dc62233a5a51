-- The checks of a heat flow.
use Rattle.heat_flow.proofs.Blanks.{no_transfer}
use Rattle.heat_flow.proofs.Words.{Side, Transfer, cases_eq, cases_lt, get_or-set_other, get_or-set_same, heat_at, if◌then◌else◌, int_sum_by-more, ints}
use Rattle.heat_flow.proofs.Words.{nat_tests, part_index, pos, precedes, ℤ, ◌+ℤ◌, ◌==◌}
use Rattle.std.proofs.Common.{List, arith, get_or, inl, inr, length, length-set, set, subst, sym, take, ℕ, ⊎_elim, ◌+◌, ◌-◌, ◌<◌, ◌∙◌, ◌≡◌, ◌≤◌}

-- ---- the order

pub precedes-trans : (s t u : Transfer) → precedes s t → precedes t u → precedes s u
precedes-trans s t u (inl h) (inl k) = inl (omega arith)
precedes-trans s t u (inl h) (inr k) = inl (omega (arith, k.0))
precedes-trans s t u (inr h) (inl k) = inl (omega (arith, h.0))
precedes-trans s t u (inr h) (inr k) = inr (h.0 ∙ k.0, omega (arith, h.1, k.1))

-- R holds of each element before index i and each later one before it
abbrev pub AllPairsBelow : {X : Type 0} → (X → X → Type 0) → List X → ℕ → Type 0
AllPairsBelow {X} R xs i = (j k : ℕ) (d : X) → j < k → k < i → R (get_or xs j d) (get_or xs k d)

-- a loop's step, where each element is compared with the one before it
pub AllPairsBelow-more : {X : Type 0} (R : X → X → Type 0) → ((x y z : X) → R x y → R y z → R x z)
    → (xs : List X) (i : ℕ) → 1 ≤ i → AllPairsBelow R xs i
    → ((d : X) → R (get_or xs (i - 1) d) (get_or xs i d)) → AllPairsBelow R xs (i + 1)
AllPairsBelow-more R trans xs i from h next j k d before within = ⊎_elim (λ lt. h j k d before lt) (λ ge.
    let last : i ≡ k = omega arith in
    subst (λ n. R (get_or xs j d) (get_or xs n d)) last (⊎_elim (λ e. subst (λ n. R (get_or xs n d) (get_or xs i d)) (sym e) (next d))
    (λ other. trans (get_or xs j d) (get_or xs (i - 1) d) (get_or xs i d) (h j (i - 1) d (omega (arith, other)) (omega arith)) (next d)) (cases_eq j (i - 1))))
    (cases_lt k i)

-- ---- the sums

abbrev pub AreHeats : Side → List Transfer → List ℤ → Type 0
AreHeats side ts sums = (a : ℕ) → a < length sums → get_or sums a (pos 0) ≡ heat_at side ts a

pub AreHeats-more : (side : Side) (ts : List Transfer) (i : ℕ) (sums : List ℤ) (index : ℕ) (next : ℤ) → i < length ts
    → index ≡ part_index side (get_or ts i no_transfer) → index < length sums
    → next ≡ get_or sums index (pos 0) +ℤ (get_or ts i no_transfer).heat
    → AreHeats side (take i ts) sums → AreHeats side (take (i + 1) ts) (set sums index next)
AreHeats-more side ts i sums index next within is room added so_far a inside =
    let here : a < length sums = rw length-set at inside in
    let t = get_or ts i no_transfer in
    let more = int_sum_by-more (λ u. if part_index side u == a then u.heat else pos 0) ts i no_transfer within in
    let old = so_far a here in
    grind (arith, ints, nat_tests, get_or-set_same sums index next (pos 0) room, get_or-set_other sums index a next (pos 0))
