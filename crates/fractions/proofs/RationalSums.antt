-- Sums of rationals over lists.
use Rattle.fractions.proofs.Comparisons.{at_most-plus_left, at_most-plus_plus, at_most-plus_right, at_most_refl, at_most_trans, not_negative-plus}
use Rattle.fractions.proofs.Ratios.{plus-ratio_same_den, ratio-zero}
use Rattle.fractions.proofs.Sums.{minus-interchange, minus-self, plus-interchange, plus-zero, plus_assoc, plus_swap_left, zero-plus}
use Rattle.fractions.proofs.Wholes.{whole-plus}
use Rattle.fractions.proofs.Words.{All-enumerated, AllPairs-head, AllPairs-tail, Contains-cons, IsAtMost, Rational, cases_eq, cons_option, count_by-cons}
use Rattle.fractions.proofs.Words.{enumerate_from, list_any, list_any_at, list_any_none, map-enumerate_from_index, map-enumerate_from_item, minus}
use Rattle.fractions.proofs.Words.{option_map_or, plus, range_with_len, ratio, rational_sum, rational_sum_by, rational_zero, whole}
use Rattle.std.proofs.Common.{All, AllPairs, Bool, Contains, List, None, Option, Some, [], ap, ap₂, arith, cond, count_by, eq-eqb, false, filter_map, find}
use Rattle.std.proofs.Common.{flat_map, get_or, if◌then◌else◌, inl, inr, length, map, ne_eqb, pos, refl, slice_get, suc, sym, true, unwrap_or, zero, ℕ, ℤ, ◌++◌}
use Rattle.std.proofs.Common.{◌+ℤ◌, ◌+◌, ◌<◌, ◌==◌, ◌||◌, ◌∙◌, ◌∷◌, ◌≡◌, ◌≢◌, ⊎_elim, ◌≤◌, ◌⊎◌}
use Rattle.std.proofs.lemmas.List.Elements.{All-head, All-tail, All-weaker}

module _ {X : Type 0} where
  pub rational_sum_by-append : (f : X → Rational) (xs ys : List X)
      → rational_sum_by f (xs ++ ys) ≡ plus (rational_sum_by f xs) (rational_sum_by f ys)
  rational_sum_by-append f [] ys = sym (zero-plus (rational_sum_by f ys))
  rational_sum_by-append f (x ∷ xs) ys =
      ap (plus (f x)) (rational_sum_by-append f xs ys)
      ∙ sym (plus_assoc (f x) (rational_sum_by f xs) (rational_sum_by f ys))

  pub rational_sum_by-same : (f g : X → Rational) (xs : List X) → All (λ x. f x ≡ g x) xs
      → rational_sum_by f xs ≡ rational_sum_by g xs
  rational_sum_by-same f g [] h = refl
  rational_sum_by-same f g (x ∷ xs) h =
      ap₂ plus (All-head (λ y. f y ≡ g y) x xs h) (rational_sum_by-same f g xs (All-tail (λ y. f y ≡ g y) x xs h))

  rational_sum_by-none : (xs : List X) → rational_sum_by (λ x. rational_zero) xs ≡ rational_zero
  rational_sum_by-none [] = refl
  rational_sum_by-none (x ∷ xs) = zero-plus (rational_sum_by (λ y. rational_zero) xs) ∙ rational_sum_by-none xs

  pub rational_sum_by-zero : (f : X → Rational) (xs : List X) → All (λ x. f x ≡ rational_zero) xs
      → rational_sum_by f xs ≡ rational_zero
  rational_sum_by-zero f xs h = rational_sum_by-same f (λ x. rational_zero) xs h ∙ rational_sum_by-none xs

  -- the sum of the sums, or of the differences, of two functions
  pub rational_sum_by-plus : (f g : X → Rational) (xs : List X)
      → rational_sum_by (λ x. plus (f x) (g x)) xs ≡ plus (rational_sum_by f xs) (rational_sum_by g xs)
  rational_sum_by-plus f g [] = sym (plus-zero rational_zero)
  rational_sum_by-plus f g (x ∷ xs) =
      ap (plus (plus (f x) (g x))) (rational_sum_by-plus f g xs)
      ∙ plus-interchange (f x) (g x) (rational_sum_by f xs) (rational_sum_by g xs)

  pub rational_sum_by-minus : (f g : X → Rational) (xs : List X)
      → rational_sum_by (λ x. minus (f x) (g x)) xs ≡ minus (rational_sum_by f xs) (rational_sum_by g xs)
  rational_sum_by-minus f g [] = sym (minus-self rational_zero)
  rational_sum_by-minus f g (x ∷ xs) =
      ap (plus (minus (f x) (g x))) (rational_sum_by-minus f g xs)
      ∙ sym (minus-interchange (f x) (rational_sum_by f xs) (g x) (rational_sum_by g xs))

  -- a sum of ratios over one denominator, and of whole numbers, where `total` sums the numerators
  pub rational_sum_by-ratio : (f : X → ℤ) (total : List X → ℤ) (d : ℕ) → total [] ≡ pos 0
      → ((x : X) (xs : List X) → total (x ∷ xs) ≡ f x +ℤ total xs)
      → (xs : List X) → rational_sum_by (λ x. ratio (f x) d) xs ≡ ratio (total xs) d
  rational_sum_by-ratio f total d none more [] = sym (ratio-zero d) ∙ ap (λ n. ratio n d) (sym none)
  rational_sum_by-ratio f total d none more (x ∷ xs) =
      ap (plus (ratio (f x) d)) (rational_sum_by-ratio f total d none more xs)
      ∙ plus-ratio_same_den (f x) (total xs) d ∙ ap (λ n. ratio n d) (sym (more x xs))

  pub rational_sum_by-whole : (f : X → ℤ) (total : List X → ℤ) → total [] ≡ pos 0
      → ((x : X) (xs : List X) → total (x ∷ xs) ≡ f x +ℤ total xs) → (xs : List X)
      → rational_sum_by (λ x. whole (f x)) xs ≡ whole (total xs)
  rational_sum_by-whole f total none more [] = ap whole (sym none)
  rational_sum_by-whole f total none more (x ∷ xs) =
      ap (plus (whole (f x))) (rational_sum_by-whole f total none more xs) ∙ whole-plus (f x) (total xs)
      ∙ ap whole (sym (more x xs))

  -- ---- order

  pub at_most-rational_sum_by : (f g : X → Rational) (xs : List X) → All (λ x. IsAtMost (f x) (g x)) xs
      → IsAtMost (rational_sum_by f xs) (rational_sum_by g xs)
  at_most-rational_sum_by f g [] h = at_most_refl rational_zero
  at_most-rational_sum_by f g (x ∷ xs) h =
      at_most-plus_plus (f x) (g x) (rational_sum_by f xs) (rational_sum_by g xs) (All-head (λ y. IsAtMost (f y) (g y)) x xs h)
      (at_most-rational_sum_by f g xs (All-tail (λ y. IsAtMost (f y) (g y)) x xs h))

  pub not_negative-rational_sum_by : (f : X → Rational) (xs : List X) → All (λ x. IsAtMost rational_zero (f x)) xs
      → IsAtMost rational_zero (rational_sum_by f xs)
  not_negative-rational_sum_by f [] h = at_most_refl rational_zero
  not_negative-rational_sum_by f (x ∷ xs) h =
      not_negative-plus (f x) (rational_sum_by f xs) (All-head (λ y. IsAtMost rational_zero (f y)) x xs h)
      (not_negative-rational_sum_by f xs (All-tail (λ y. IsAtMost rational_zero (f y)) x xs h))

  -- a term of a sum of which none is below 0
  pub term-at_most : (f : X → Rational) (xs : List X) (x : X) → All (λ y. IsAtMost rational_zero (f y)) xs
      → Contains xs x
      → IsAtMost (f x) (rational_sum_by f xs)
  term-at_most f [] x h (k, within, is) = absurd (omega (arith, within))
  term-at_most f (y ∷ ys) x h found = by (Contains-cons y ys x found) (term-at_most f ys x rest)
    where
      rest : All (λ z. IsAtMost rational_zero (f z)) ys
      rest = All-tail (λ z. IsAtMost rational_zero (f z)) y ys h

      by : (y ≡ x) ⊎ Contains ys x → (Contains ys x → IsAtMost (f x) (rational_sum_by f ys))
          → IsAtMost (f x) (plus (f y) (rational_sum_by f ys))
      by (inl same) later =
          rw (← same) (at_most-plus_right (f y) (rational_sum_by f ys) (not_negative-rational_sum_by f ys rest))
      by (inr inside) later =
          at_most_trans (f x) (rational_sum_by f ys) (plus (f y) (rational_sum_by f ys)) (later inside)
          (at_most-plus_left (f y) (rational_sum_by f ys) (All-head (λ z. IsAtMost rational_zero (f z)) y ys h))

module _ {X Y : Type 0} where
  pub rational_sum_by-map : (f : Y → Rational) (g : X → Y) (xs : List X)
      → rational_sum_by f (map g xs) ≡ rational_sum_by (λ x. f (g x)) xs
  rational_sum_by-map f g [] = refl
  rational_sum_by-map f g (x ∷ xs) = ap (plus (f (g x))) (rational_sum_by-map f g xs)

  pub rational_sum_by-flat_map : (f : Y → Rational) (g : X → List Y) (xs : List X)
      → rational_sum_by f (flat_map g xs) ≡ rational_sum_by (λ x. rational_sum_by f (g x)) xs
  rational_sum_by-flat_map f g [] = refl
  rational_sum_by-flat_map f g (x ∷ xs) =
      rational_sum_by-append f (g x) (flat_map g xs)
      ∙ ap (plus (rational_sum_by f (g x))) (rational_sum_by-flat_map f g xs)

  -- two sums exchanged
  pub rational_sum_by-swap : (f : X → Y → Rational) (xs : List X) (ys : List Y)
      → rational_sum_by (λ x. rational_sum_by (f x) ys) xs ≡ rational_sum_by (λ y. rational_sum_by (λ x. f x y) xs) ys
  rational_sum_by-swap f [] ys = sym (rational_sum_by-none ys)
  rational_sum_by-swap f (x ∷ xs) ys =
      ap (plus (rational_sum_by (f x) ys)) (rational_sum_by-swap f xs ys)
      ∙ sym (rational_sum_by-plus (f x) (λ y. rational_sum_by (λ z. f z y) xs) ys)

-- a sum of what is there
pub sum-filter_map : {X : Type 0} (f : X → Option Rational) (xs : List X)
    → rational_sum (filter_map f xs) ≡ rational_sum_by (λ x. unwrap_or (f x) rational_zero) xs
sum-filter_map f [] = refl
sum-filter_map f (x ∷ xs) = by (f x) ∙ ap (plus (unwrap_or (f x) rational_zero)) (sum-filter_map f xs)
  where
    by : (o : Option Rational)
        → rational_sum (cons_option o (filter_map f xs))
        ≡ plus (unwrap_or o rational_zero) (rational_sum (filter_map f xs))
    by None = sym (zero-plus (rational_sum (filter_map f xs)))
    by (Some a) = refl

-- ---- elements beside their indices

module _ {X : Type 0} where
  pub sum-enumerated : (f g : ℕ × X → Rational) (xs : List X)
      → ((i : ℕ) (x : X) → slice_get xs i ≡ Some x → f (i, x) ≡ g (i, x))
      → rational_sum_by f (enumerate_from 0 xs) ≡ rational_sum_by g (enumerate_from 0 xs)
  sum-enumerated f g xs h = rational_sum_by-same f g (enumerate_from 0 xs) (All-enumerated (λ p. f p ≡ g p) xs h)

  -- a sum over indices, and one over elements
  pub sum-enumerate : (f : ℕ × X → Rational) (g : ℕ → Rational) (xs : List X)
      → ((i : ℕ) (x : X) → slice_get xs i ≡ Some x → f (i, x) ≡ g i)
      → rational_sum_by f (enumerate_from 0 xs) ≡ rational_sum_by g (range_with_len 0 (length xs))
  sum-enumerate f g xs h =
      sum-enumerated f (λ p. g p.0) xs h ∙ sym (rational_sum_by-map g (λ (p : ℕ × X). p.0) (enumerate_from 0 xs))
      ∙ ap (rational_sum_by g) (map-enumerate_from_index 0 xs)

  pub sum-items : (f : ℕ × X → Rational) (g : X → Rational) (xs : List X)
      → ((i : ℕ) (x : X) → slice_get xs i ≡ Some x → f (i, x) ≡ g x)
      → rational_sum_by f (enumerate_from 0 xs) ≡ rational_sum_by g xs
  sum-items f g xs h =
      sum-enumerated f (λ p. g p.1) xs h ∙ sym (rational_sum_by-map g (λ (p : ℕ × X). p.1) (enumerate_from 0 xs))
      ∙ ap (rational_sum_by g) (map-enumerate_from_item 0 xs)

  pub not_negative-enumerated : (f : ℕ × X → Rational) (xs : List X)
      → ((i : ℕ) (x : X) → slice_get xs i ≡ Some x → IsAtMost rational_zero (f (i, x)))
      → IsAtMost rational_zero (rational_sum_by f (enumerate_from 0 xs))
  not_negative-enumerated f xs h =
      not_negative-rational_sum_by f (enumerate_from 0 xs) (All-enumerated (λ p. IsAtMost rational_zero (f p)) xs h)

  pub at_most-enumerated : (f g : ℕ × X → Rational) (xs : List X)
      → ((i : ℕ) (x : X) → slice_get xs i ≡ Some x → IsAtMost (f (i, x)) (g (i, x)))
      → IsAtMost (rational_sum_by f (enumerate_from 0 xs)) (rational_sum_by g (enumerate_from 0 xs))
  at_most-enumerated f g xs h =
      at_most-rational_sum_by f g (enumerate_from 0 xs) (All-enumerated (λ p. IsAtMost (f p) (g p)) xs h)

-- ---- a test that one element passes

module _ {X : Type 0} (p : X → Bool) (f : X → Rational) where
  -- f where the test holds, and 0 elsewhere
  abbrev pub only : X → Rational
  only x = if p x then f x else rational_zero

  only_none : (xs : List X) → count_by p xs ≡ 0 → rational_sum_by only xs ≡ rational_zero
  only_none [] none = refl
  only_none (x ∷ xs) none = by (p x) (count_by-cons p x xs) (only_none xs)
    where
      by : (b : Bool) → count_by p (x ∷ xs) ≡ cond b 1 0 + count_by p xs
          → (count_by p xs ≡ 0 → rational_sum_by only xs ≡ rational_zero)
          → plus (if b then f x else rational_zero) (rational_sum_by only xs) ≡ rational_zero
      by true count later = absurd (omega (arith, count, none))
      by false count later = zero-plus (rational_sum_by only xs) ∙ later (omega (arith, count, none))

  pub sum-once : (xs : List X) → count_by p xs ≡ 1 → rational_sum_by only xs ≡ option_map_or f (find p xs) rational_zero
  sum-once [] once = absurd (omega (arith, once))
  sum-once (x ∷ xs) once = by (p x) (count_by-cons p x xs) (sum-once xs)
    where
      by : (b : Bool) → count_by p (x ∷ xs) ≡ cond b 1 0 + count_by p xs
          → (count_by p xs ≡ 1 → rational_sum_by only xs ≡ option_map_or f (find p xs) rational_zero)
          → plus (if b then f x else rational_zero) (rational_sum_by only xs)
          ≡ option_map_or f (cond b (Some x) (find p xs)) rational_zero
      by true count later = ap (plus (f x)) (only_none xs (omega (arith, count, once))) ∙ plus-zero (f x)
      by false count later = zero-plus (rational_sum_by only xs) ∙ later (omega (arith, count, once))

-- ---- numbers taken out of a range

module _ (f : ℕ → Rational) where
  -- f but for one number, where it is 0
  abbrev pub but_at : ℕ → ℕ → Rational
  but_at u k = if k == u then rational_zero else f k

  but_at-other : (u k : ℕ) → k ≢ u → but_at u k ≡ f k
  but_at-other u k other = rw (ne_eqb k u other) refl

  but_at-behind : (u a n : ℕ) → u < a
      → rational_sum_by (but_at u) (range_with_len a n) ≡ rational_sum_by f (range_with_len a n)
  but_at-behind u a zero before = refl
  but_at-behind u a (suc n) before =
      ap₂ plus (but_at-other u a (λ same. absurd (omega (arith, before, same)))) (but_at-behind u (a + 1) n (omega (arith, before)))

  pub one_taken : (u a n : ℕ) → a ≤ u → u < a + n
      → rational_sum_by f (range_with_len a n) ≡ plus (f u) (rational_sum_by (but_at u) (range_with_len a n))
  one_taken u a zero from upto = absurd (omega (arith, from, upto))
  one_taken u a (suc n) from upto = by (cases_eq a u) (one_taken u (a + 1) n)
    where
      rest : Rational
      rest = rational_sum_by (but_at u) (range_with_len (a + 1) n)

      by : (a ≡ u) ⊎ (a ≢ u) → (a + 1 ≤ u → u < a + 1 + n → rational_sum_by f (range_with_len (a + 1) n) ≡ plus (f u) rest)
          → plus (f a) (rational_sum_by f (range_with_len (a + 1) n)) ≡ plus (f u) (plus (but_at u a) rest)
      by (inl same) later =
          ap₂ plus (ap f same) (sym (but_at-behind u (a + 1) n (omega (arith, same))) ∙ sym (zero-plus rest))
          ∙ ap (λ x. plus (f u) (plus x rest)) (rw (eq-eqb a u same) refl)
      by (inr other) later =
          ap (plus (f a)) (later (omega (arith, from, other)) (omega (arith, upto))) ∙ plus_swap_left (f a) (f u) rest
          ∙ ap (λ x. plus (f u) (plus x rest)) (sym (but_at-other u a other))

-- one number of a range, and one element beside its index
pub sum-one_number : (a : Rational) (k n : ℕ) → k < n
    → rational_sum_by (λ i. if k == i then a else rational_zero) (range_with_len 0 n) ≡ a
sum-one_number a k n within =
    one_taken (λ i. if k == i then a else rational_zero) k 0 n (omega arith) (omega (arith, within))
    ∙ ap₂ plus (rw (eq-eqb k k refl) refl) (rational_sum_by-zero (but_at (λ i. if k == i then a else rational_zero) k) (range_with_len 0 n)
    (λ j d inside. none (get_or (range_with_len 0 n) j d))) ∙ plus-zero a
  where
    none : (i : ℕ) → but_at (λ j. if k == j then a else rational_zero) k i ≡ rational_zero
    none i =
        ⊎_elim (λ same. rw (eq-eqb i k same) refl) (λ other. rw (ne_eqb i k other, ne_eqb k i (λ is. other (sym is))) refl) (cases_eq i k)

pub sum-picked : {X : Type 0} (k : ℕ) (a : Rational) (xs : List X) → k < length xs
    → rational_sum_by (λ (e : ℕ × X). if k == e.0 then a else rational_zero) (enumerate_from 0 xs) ≡ a
sum-picked k a xs within =
    sum-enumerate (λ e. if k == e.0 then a else rational_zero) (λ i. if k == i then a else rational_zero) xs (λ i x at. refl)
    ∙ sum-one_number a k (length xs) within

-- f but for the numbers of a list, where it is 0
abbrev pub left_of : (ℕ → Rational) → List ℕ → ℕ → Rational
left_of f us k = if list_any (λ u. k == u) us then rational_zero else f k

pub left_of-used : (f : ℕ → Rational) (us : List ℕ) (k : ℕ) → Contains us k → left_of f us k ≡ rational_zero
left_of-used f us k (i, within, is) =
    rw (list_any_at (λ u. k == u) us i k within (eq-eqb k (get_or us i k) (sym is))) refl

pub left_of-unused : (f : ℕ → Rational) (us : List ℕ) (k : ℕ) → All (λ u. k ≢ u) us → left_of f us k ≡ f k
left_of-unused f us k h =
    rw (list_any_none (λ u. k == u) us (All-weaker (λ u. k ≢ u) (λ u. (k == u) ≡ false) (ne_eqb k) us h)) refl

left_of-cons : (f : ℕ → Rational) (u : ℕ) (us : List ℕ) (k : ℕ) → but_at (left_of f us) u k ≡ left_of f (u ∷ us) k
left_of-cons f u us k = by (k == u)
  where
    by : (b : Bool) → (if b then rational_zero else left_of f us k)
        ≡ (if b || list_any (λ v. k == v) us then rational_zero else f k)
    by true = refl
    by false = refl

-- each number is taken once, and what is left makes up the whole
pub sum_over_used : (f : ℕ → Rational) (us : List ℕ) (n : ℕ) → AllPairs (λ a b. a ≢ b) us → All (λ u. u < n) us
    → rational_sum_by f (range_with_len 0 n)
    ≡ plus (rational_sum_by f us) (rational_sum_by (left_of f us) (range_with_len 0 n))
sum_over_used f [] n distinct within = sym (zero-plus (rational_sum_by f (range_with_len 0 n)))
sum_over_used f (u ∷ us) n distinct within =
    let numbers = range_with_len 0 n in
    let small = All-head (λ v. v < n) u us within in
    let rest = sum_over_used f us n (AllPairs-tail (λ a b. a ≢ b) u us distinct) (All-tail (λ v. v < n) u us within) in
    let taken = one_taken (left_of f us) u 0 n (omega arith) (omega (arith, small)) in
    let others = rational_sum_by-same (but_at (left_of f us) u) (left_of f (u ∷ us)) numbers (λ k d inside. left_of-cons f u us (get_or numbers k d)) in
    rest ∙ ap (plus (rational_sum_by f us)) (taken ∙ ap₂ plus (left_of-unused f us u (AllPairs-head (λ a b. a ≢ b) u us distinct)) others)
    ∙ plus_swap_left (rational_sum_by f us) (f u) (rational_sum_by (left_of f (u ∷ us)) numbers)
    ∙ sym (plus_assoc (f u) (rational_sum_by f us) (rational_sum_by (left_of f (u ∷ us)) numbers))
