-- Sums over lists: with another item in a place, in another order, and of terms that are not negative.
use Rattle.chains.proofs.Words.{All, All-drop, All-head, All-tail, All-weaker, IsPermutation, IsPermutation-keeps, by_lt_z, cases_eq}
use Rattle.chains.proofs.Words.{get_or-set_other, get_or-set_same, if◌then◌else◌, int_sum_by, int_sum_by-equal, int_sum_by-not_negative}
use Rattle.chains.proofs.Words.{int_sum_by-split, int_sum_by-zero, ints, length-set, pos, set, swap, ℤ, ◌+ℤ◌, ◌-ℤ◌, ◌<ℤ◌, ◌≤ℤ◌}
use Rattle.std.proofs.Common.{Bool, List, [], ap, arith, drop, false, get_or, length, refl, suc, sym, take, true, zero, ℕ, ⊎_elim, ◌<◌, ◌∙◌, ◌∷◌, ◌≡◌}

module _ {X : Type 0} (f : X → ℤ) where
  -- one element written
  pub int_sum_by-set : (xs : List X) (i : ℕ) (y d : X) → i < length xs
      → int_sum_by f (set xs i y) ≡ (int_sum_by f xs -ℤ f (get_or xs i d)) +ℤ f y
  int_sum_by-set [] i y d within = absurd (omega (arith, within))
  int_sum_by-set (x ∷ xs) zero y d within = omega (arith, ints)
  int_sum_by-set (x ∷ xs) (suc i) y d within =
      let rest = int_sum_by-set xs i y d (omega (arith, within)) in
      omega (arith, ints)

  exchanged : (l : List X) (i j : ℕ) (d : X) → i < length l → j < length l
      → int_sum_by f (set (set l i (get_or l j d)) j (get_or l i d)) ≡ int_sum_by f l
  exchanged l i j d early late =
      let w : List X = set l i (get_or l j d) in
      let long = length-set l i (get_or l j d) in
      let there : get_or w j d ≡ get_or l j d =
      ⊎_elim (λ e. ap (λ n. get_or w n d) e ∙ get_or-set_same l i (get_or l j d) d early)
      (λ n. get_or-set_other l i j (get_or l j d) d n) (cases_eq j i) in
      let read = ap f there in
      let first = int_sum_by-set l i (get_or l j d) d early in
      let second = int_sum_by-set w j (get_or l i d) d (omega (arith, long, late)) in
      omega (arith, ints)

  swapped : (l : List X) (i j : ℕ) → i < length l → j < length l → int_sum_by f (swap l i j) ≡ int_sum_by f l
  swapped [] i j early late = absurd (omega (arith, early))
  swapped (x ∷ l) i j early late = exchanged (x ∷ l) i j x early late

  -- another order
  pub int_sum_by-permutation : (xs ys : List X) → IsPermutation xs ys → int_sum_by f ys ≡ int_sum_by f xs
  int_sum_by-permutation xs =
      IsPermutation-keeps xs (λ l. int_sum_by f l ≡ int_sum_by f xs) refl (λ l i j early late h.
      swapped l i j early late ∙ h)

  -- a sum above 0 has a term above 0
  pub int_sum_by-some : (xs : List X) → pos 0 <ℤ int_sum_by f xs
      → (i : ℕ) × (i < length xs) × ((d : X) → pos 0 <ℤ f (get_or xs i d))
  int_sum_by-some [] some = absurd (omega (arith, ints))
  int_sum_by-some (x ∷ xs) some =
      by_lt_z (pos 0) (f x) (λ here. (0, omega arith, λ d. here))
      (λ none. let (i, within, h) = int_sum_by-some xs (omega (arith, ints)) in (suc i, omega (arith, within), h))

  -- terms that are not negative and add up to 0 are 0
  pub int_sum_by-none : (xs : List X) → All (λ x. pos 0 ≤ℤ f x) xs → int_sum_by f xs ≡ pos 0 → All (λ x. f x ≡ pos 0) xs
  int_sum_by-none xs h none =
      let zeros = int_sum_by-zero (λ (x : X). pos 0) xs (λ k d within. refl) in
      let all_zero = int_sum_by-equal (λ x. pos 0) f xs h (zeros ∙ sym none) in
      All-weaker (λ x. pos 0 ≡ f x) (λ x. f x ≡ pos 0) (λ x e. sym e) xs all_zero

  -- a term of such a sum, and a front of it
  pub int_sum_by-term : (xs : List X) → All (λ x. pos 0 ≤ℤ f x) xs → (i : ℕ) (d : X) → i < length xs
      → f (get_or xs i d) ≤ℤ int_sum_by f xs
  int_sum_by-term [] h i d within = absurd (omega (arith, within))
  int_sum_by-term (x ∷ xs) h zero d within =
      let others = int_sum_by-not_negative f xs (All-tail (λ y. pos 0 ≤ℤ f y) x xs h) in
      omega (arith, ints)
  int_sum_by-term (x ∷ xs) h (suc i) d within =
      let first = All-head (λ y. pos 0 ≤ℤ f y) x xs h in
      let rest = int_sum_by-term xs (All-tail (λ y. pos 0 ≤ℤ f y) x xs h) i d (omega (arith, within)) in
      omega (arith, ints)

  pub int_sum_by-front : (n : ℕ) (xs : List X) → All (λ x. pos 0 ≤ℤ f x) xs
      → int_sum_by f (take n xs) ≤ℤ int_sum_by f xs
  int_sum_by-front n xs h =
      let both = int_sum_by-split f n xs in
      let others = int_sum_by-not_negative f (drop n xs) (All-drop (λ x. pos 0 ≤ℤ f x) n xs h) in
      omega (arith, ints)

-- a number where a test holds, and 0 elsewhere: above 0, and with another such number
pub if_positive : (b : Bool) (x : ℤ) → pos 0 <ℤ (if b then x else pos 0) → (b ≡ true) × (pos 0 <ℤ x)
if_positive true x some = (refl, some)
if_positive false x some = absurd (omega (arith, ints, some))

pub if_add : (b : Bool) (x y : ℤ)
    → (if b then (x +ℤ y) else pos 0) ≡ (if b then x else pos 0) +ℤ (if b then y else pos 0)
if_add true x y = refl
if_add false x y = refl

pub if_sub : (b : Bool) (x y : ℤ)
    → (if b then (x -ℤ y) else pos 0) ≡ (if b then x else pos 0) -ℤ (if b then y else pos 0)
if_sub true x y = refl
if_sub false x y = refl
