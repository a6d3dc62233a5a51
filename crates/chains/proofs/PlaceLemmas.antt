-- The index of a temperature among falling places, from how many of them are above it.
use Rattle.chains.proofs.Words.{AllPairs, Decides-int_eq, cases_lt, false_from_ne_true, false≢true, get_or_default, int_eq, int_lt, int_lt-from, int_lt-true}
use Rattle.chains.proofs.Words.{ints, place_index}
use Rattle.std.proofs.Common.{List, [], ap, arith, cond, false, get_or, length, refl, subst, suc, sym, true, zero, ℕ, ℤ, ⊎_elim, ◌<ℤ◌, ◌<◌, ◌∙◌, ◌∷◌, ◌≡◌, ◌≤◌}
use Rattle.std.specs.List.Sorted.{IsPartitionedBy}

-- ---- the first place at the temperature

other_place : (p t : ℤ) → (p ≡ t → ⊥) → int_eq p t ≡ false
other_place p t other = false_from_ne_true (int_eq p t) (λ e. other ((Decides-int_eq p t).0 e))

pub first_place : (places : List ℤ) (t : ℤ) (k : ℕ) → k < length places
    → ((j : ℕ) (d : ℤ) → j < k → get_or places j d ≡ t → ⊥)
    → ((d : ℤ) → get_or places k d ≡ t) → place_index places t ≡ k
first_place [] t k within before is = absurd (omega (arith, within))
first_place (p ∷ ps) t zero within before is =
    ap (λ b. cond b 0 (suc (place_index ps t))) ((Decides-int_eq p t).1 (is p))
first_place (p ∷ ps) t (suc k) within before is =
    ap (λ b. cond b 0 (suc (place_index ps t))) (other_place p t (before 0 p (omega arith)))
    ∙ ap suc (first_place ps t k (omega (arith, within)) (λ j d less. before (suc j) d (omega (arith, less))) is)

pub no_place : (places : List ℤ) (t : ℤ) → ((j : ℕ) (d : ℤ) → j < length places → get_or places j d ≡ t → ⊥)
    → place_index places t ≡ length places
no_place [] t none = refl
no_place (p ∷ ps) t none =
    ap (λ b. cond b 0 (suc (place_index ps t))) (other_place p t (none 0 p (omega arith)))
    ∙ ap suc (no_place ps t (λ j d less. none (suc j) d (omega (arith, less))))

-- ---- falling places

module _ (places : List ℤ) (falls : AllPairs (λ a b. b <ℤ a) places) (t : ℤ) where
  pub IsParted-falls : IsPartitionedBy (λ place. int_lt t place) places
  IsParted-falls i j d upto within above =
      ⊎_elim (λ less. let fall = falls i j d less within in
      let high = int_lt-true t (get_or places j d) above in
      int_lt-from t (get_or places i d) (omega (arith, ints))) (λ past.
      let same : j ≡ i = omega (arith, upto, past) in
      subst (λ n. int_lt t (get_or places n d) ≡ true) same above) (cases_lt i j)

  -- those before the index are above the temperature, those from it on are not
  module _ (k : ℕ) (early : (j : ℕ) (d : ℤ) → j < k → int_lt t (get_or places j d) ≡ true)
      (late : (j : ℕ) (d : ℤ) → k ≤ j → j < length places → int_lt t (get_or places j d) ≡ false) where
    other_before : (j : ℕ) (d : ℤ) → j < k → get_or places j d ≡ t → ⊥
    other_before j d less is =
        let high = int_lt-true t (get_or places j d) (early j d less) in
        omega (arith, ints)

    pub place_index-there : k < length places → get_or places k t ≡ t → place_index places t ≡ k
    place_index-there within is =
        first_place places t k within other_before (λ d. get_or_default places k d t within ∙ is)

    pub place_index-none : (k < length places → get_or places k t ≡ t → ⊥) → place_index places t ≡ length places
    place_index-none other =
        no_place places t (λ j d within is.
        ⊎_elim (λ less. other_before j d less is)
        (λ upto. ⊎_elim
        (λ behind.
        let fall = falls k j d behind within in
        let above = int_lt-from t (get_or places k d) (omega (arith, ints)) in
        false≢true (sym (late k d (omega arith) (omega (arith, behind, within))) ∙ above))
        (λ not_behind.
        let same : j ≡ k = omega (arith, upto, not_behind) in
        let at_k = subst (λ n. get_or places n d ≡ t) same is in
        let k_in : k < length places = omega (arith, same, within) in
        other k_in (get_or_default places k t d k_in ∙ at_k))
        (cases_lt k j))
        (cases_lt j k))
