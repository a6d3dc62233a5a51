-- Lists whose elements stand beside their indices.
use Rattle.std.proofs.Common.{All, List, Some, [], ap, arith, length, map, refl, slice_get, suc, zero, zero-add, ℕ, ◌++◌, ◌+◌, ◌∙◌, ◌∷◌, ◌≡◌}
use Rattle.sums.proofs.Words.{All-cons, All-nil, enumerate_from, range_with_len}

module _ {X : Type 0} where
  -- what holds of each element with its index
  All-enumerate_from : (P : ℕ × X → Type 0) (n : ℕ) (xs : List X)
      → ((i : ℕ) (x : X) → slice_get xs i ≡ Some x → P (n + i, x)) → All P (enumerate_from n xs)
  All-enumerate_from P n [] h = All-nil P
  All-enumerate_from P n (x ∷ xs) h =
      All-cons P (n, x) (enumerate_from (n + 1) xs) (let first : n + 0 ≡ n = omega arith in rw first at (h 0 x refl))
      (All-enumerate_from P (n + 1) xs (λ i y at. let index : n + 1 + i ≡ n + suc i = omega arith in rw index (h (suc i) y at)))

  pub All-enumerated : (P : ℕ × X → Type 0) (xs : List X)
      → ((i : ℕ) (x : X) → slice_get xs i ≡ Some x → P (i, x)) → All P (enumerate_from 0 xs)
  All-enumerated P xs h = All-enumerate_from P 0 xs (λ i x at. rw zero-add (h i x at))

  -- the indices alone, and the elements alone
  pub map-enumerate_from_index : (n : ℕ) (xs : List X)
      → map (λ (p : ℕ × X). p.0) (enumerate_from n xs) ≡ range_with_len n (length xs)
  map-enumerate_from_index n [] = refl
  map-enumerate_from_index n (x ∷ xs) = ap (λ is. n ∷ is) (map-enumerate_from_index (n + 1) xs)

  pub map-enumerate_from_item : (n : ℕ) (xs : List X) → map (λ (p : ℕ × X). p.1) (enumerate_from n xs) ≡ xs
  map-enumerate_from_item n [] = refl
  map-enumerate_from_item n (x ∷ xs) = ap (λ ys. x ∷ ys) (map-enumerate_from_item (n + 1) xs)

  pub enumerate_from-append : (n : ℕ) (xs ys : List X)
      → enumerate_from n (xs ++ ys) ≡ enumerate_from n xs ++ enumerate_from (n + length xs) ys
  enumerate_from-append n [] ys =
      let first : n ≡ n + 0 = omega arith in
      ap (λ k. enumerate_from k ys) first
  enumerate_from-append n (x ∷ xs) ys =
      let next : n + 1 + length xs ≡ n + suc (length xs) = omega arith in
      ap (λ l. (n, x) ∷ l) (enumerate_from-append (n + 1) xs ys ∙ ap (λ k. enumerate_from (n + 1) xs ++ enumerate_from k ys) next)

pub range_with_len-append : (a m n : ℕ) → range_with_len a m ++ range_with_len (a + m) n ≡ range_with_len a (m + n)
range_with_len-append a zero n =
    let first : a + 0 ≡ a = omega arith in
    rw zero-add (ap (λ k. range_with_len k n) first)
range_with_len-append a (suc m) n =
    let long : suc m + n ≡ suc (m + n) = omega arith in
    let next : a + suc m ≡ a + 1 + m = omega arith in
    rw long (ap (λ l. a ∷ l) (ap (λ k. range_with_len (a + 1) m ++ range_with_len k n) next ∙ range_with_len-append (a + 1) m n))
