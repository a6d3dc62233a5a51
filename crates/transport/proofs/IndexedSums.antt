-- Sums over lists with indices, and a sum over the links of a net as such a sum.
use Rattle.transport.proofs.Words.{*ℤ-+ℤ, *ℤ-zero, Link, Part, Some, int_sum_from, int_sum_from-by, int_sum_from-le_each, int_sum_from-zero, ints}
use Rattle.transport.proofs.Words.{link_at, most_of, pos, slice_get, sum_below, sum_below-same, ℤ, ◌*ℤ◌, ◌+ℤ◌, ◌≤ℤ◌}
use Rattle.std.proofs.Common.{List, [], add-zero, ap, arith, length, refl, subst, suc, sym, zero, zero-add, ℕ, ◌+◌, ◌∙◌, ◌∷◌, ◌≡◌}

-- the mosts of parts, as such a sum
pub mosts : (parts : List Part) → int_sum_from (λ i (p : Part). p.most) 0 parts ≡ most_of parts
mosts parts = int_sum_from-by (λ p. p.most) 0 parts

module _ {X : Type 0} where
  -- the indices one further
  pub int_sum_from-next : (f : ℕ → X → ℤ) (n : ℕ) (xs : List X)
      → int_sum_from f (suc n) xs ≡ int_sum_from (λ i x. f (suc i) x) n xs
  int_sum_from-next f n [] = refl
  int_sum_from-next f n (x ∷ xs) = ap (λ z. f (suc n) x +ℤ z) (int_sum_from-next f (suc n) xs)

  pub int_sum_from-mul : (c : ℤ) (f : ℕ → X → ℤ) (n : ℕ) (xs : List X)
      → int_sum_from (λ i x. c *ℤ f i x) n xs ≡ c *ℤ int_sum_from f n xs
  int_sum_from-mul c f n [] = sym (*ℤ-zero c)
  int_sum_from-mul c f n (x ∷ xs) =
      let rest = int_sum_from-mul c f (suc n) xs in
      let split = *ℤ-+ℤ c (f n x) (int_sum_from f (suc n) xs) in
      omega (arith, ints)

  pub int_sum_from-not_negative : (f : ℕ → X → ℤ) (xs : List X)
      → ((i : ℕ) (x : X) → slice_get xs i ≡ Some x → pos 0 ≤ℤ f i x) → pos 0 ≤ℤ int_sum_from f 0 xs
  int_sum_from-not_negative f xs h =
      let bound = int_sum_from-le_each (λ i x. pos 0) f xs h in
      let none = int_sum_from-zero (λ i x. pos 0) 0 xs (λ i x le. refl) in
      omega (arith, ints)

  -- a sum of terms that are not negative is at least each of them
  pub int_sum_from-term : (f : ℕ → X → ℤ) (xs : List X)
      → ((i : ℕ) (x : X) → slice_get xs i ≡ Some x → pos 0 ≤ℤ f i x) → (i : ℕ) (x : X)
      → slice_get xs i ≡ Some x → f i x ≤ℤ int_sum_from f 0 xs
  int_sum_from-term f [] h i x at = cc at
  int_sum_from-term f (y ∷ ys) h zero x at =
      let rest = int_sum_from-not_negative (λ j z. f (suc j) z) ys (λ j z there. h (suc j) z there) in
      let next = int_sum_from-next f 0 ys in
      let same : y ≡ x = cc at in
      subst (λ w. f 0 w ≤ℤ int_sum_from f 0 (y ∷ ys)) same (omega (arith, ints))
  int_sum_from-term f (y ∷ ys) h (suc i) x at =
      let first = h 0 y refl in
      let rest = int_sum_from-term (λ j z. f (suc j) z) ys (λ j z there. h (suc j) z there) i x at in
      let next = int_sum_from-next f 0 ys in omega (arith, ints)

  -- where no term of a sum is greater than that of another one, and the sum is not less, the terms are equal
  pub int_sum_from-equal : (f g : ℕ → X → ℤ) (xs : List X)
      → ((i : ℕ) (x : X) → slice_get xs i ≡ Some x → f i x ≤ℤ g i x)
      → int_sum_from g 0 xs ≤ℤ int_sum_from f 0 xs → (i : ℕ) (x : X) → slice_get xs i ≡ Some x → f i x ≡ g i x
  int_sum_from-equal f g [] le sum i x at = cc at
  int_sum_from-equal f g (y ∷ ys) le sum zero x at =
      let first = le 0 y refl in
      let rest = int_sum_from-le_each (λ j z. f (suc j) z) (λ j z. g (suc j) z) ys (λ j z there. le (suc j) z there) in
      let fs = int_sum_from-next f 0 ys in
      let gs = int_sum_from-next g 0 ys in
      let same : y ≡ x = cc at in
      subst (λ w. f 0 w ≡ g 0 w) same (omega (arith, ints))
  int_sum_from-equal f g (y ∷ ys) le sum (suc i) x at =
      let first = le 0 y refl in
      let fs = int_sum_from-next f 0 ys in
      let gs = int_sum_from-next g 0 ys in
      int_sum_from-equal (λ j z. f (suc j) z) (λ j z. g (suc j) z) ys (λ j z there. le (suc j) z there)
      (omega (arith, ints)) i x at

-- ---- a sum over the links of a net, as sums over the inner links and over the parts

sum_below-front : (n : ℕ) (f : ℕ → ℤ) → sum_below (suc n) f ≡ f 0 +ℤ sum_below n (λ k. f (suc k))
sum_below-front zero f = omega (arith, ints)
sum_below-front (suc n) f = let rest = sum_below-front n f in omega (arith, ints)

sum_from_links : (f : ℕ → Link → ℤ) (n : ℕ) (links : List Link)
    → sum_below (length links) (λ k. f (n + k) (link_at links k)) ≡ int_sum_from f n links
sum_from_links f n [] = refl
sum_from_links f n (l ∷ links) =
    let front = sum_below-front (length links) (λ k. f (n + k) (link_at (l ∷ links) k)) in
    let first : f (n + 0) l ≡ f n l = ap (λ i. f i l) (add-zero n) in
    let same = sum_below-same (length links) (λ k. f (n + suc k) (link_at links k))
    (λ k. f (suc n + k) (link_at links k))
    (λ k within. ap (λ i. f i (link_at links k)) {x = n + suc k} {y = suc n + k} (omega arith)) in
    let rest = sum_from_links f (suc n) links in omega (arith, ints)

pub sum_over_links : (f : ℕ → Link → ℤ) (links : List Link)
    → sum_below (length links) (λ k. f k (link_at links k)) ≡ int_sum_from f 0 links
sum_over_links f links = sum_below-same (length links) (λ k. f k (link_at links k)) (λ k. f (0 + k) (link_at links k))
    (λ k within. ap (λ i. f i (link_at links k)) (sym (zero-add k))) ∙ sum_from_links f 0 links
