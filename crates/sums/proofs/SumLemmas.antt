-- Sums of integers over lists.
use Rattle.std.proofs.Common.{All, Bool, List, Some, [], add-zero, ap, ap₂, arith, drop, eq-eqb, false, get_or, if◌then◌else◌, length, length-take, map, ne_eqb}
use Rattle.std.proofs.Common.{pos, refl, slice_get, suc, sym, take, take-append-drop, true, zero-add, ℕ, ℤ, ⊎_elim, ◌*ℤ◌, ◌*◌, ◌++◌, ◌+ℤ◌, ◌+◌, ◌-ℤ◌, ◌-◌, ◌<◌}
use Rattle.std.proofs.Common.{◌==◌, ◌∙◌, ◌∷◌, ◌≡◌, ◌≢◌, ◌≤ℤ◌, ◌≤◌}
use Rattle.sums.proofs.Words.{*ℤ-zero, All-cons, All-head, All-nil, All-tail, cases_eq, cons_if, int_sum_by, int_sum_from, ints, take_more}
use Rattle.sums.proofs.ProductLemmas.{*ℤ-+ℤ}

-- ---- `int_sum_by`

module _ {X : Type 0} where
  pub int_sum_by-append : (f : X → ℤ) (xs ys : List X) → int_sum_by f (xs ++ ys) ≡ int_sum_by f xs +ℤ int_sum_by f ys
  int_sum_by-append f [] ys = omega (arith, ints)
  int_sum_by-append f (x ∷ xs) ys = let rest = int_sum_by-append f xs ys in omega (arith, ints)

  -- a loop's step
  pub int_sum_by-more : (f : X → ℤ) (xs : List X) (i : ℕ) (d : X) → i < length xs
      → int_sum_by f (take (i + 1) xs) ≡ int_sum_by f (take i xs) +ℤ f (get_or xs i d)
  int_sum_by-more f xs i d within =
      let last = int_sum_by-append f (take i xs) (get_or xs i d ∷ []) in
      ap (int_sum_by f) (take_more xs i d within) ∙ omega (arith, ints)

  pub int_sum_by-same : (f g : X → ℤ) (xs : List X) → All (λ x. f x ≡ g x) xs → int_sum_by f xs ≡ int_sum_by g xs
  int_sum_by-same f g [] h = refl
  int_sum_by-same f g (x ∷ xs) h =
      ap₂ ◌+ℤ◌ (All-head (λ y. f y ≡ g y) x xs h) (int_sum_by-same f g xs (All-tail (λ y. f y ≡ g y) x xs h))

  pub int_sum_by-zero : (f : X → ℤ) (xs : List X) → All (λ x. f x ≡ pos 0) xs → int_sum_by f xs ≡ pos 0
  int_sum_by-zero f [] h = refl
  int_sum_by-zero f (x ∷ xs) h = let first = All-head (λ y. f y ≡ pos 0) x xs h in
      let rest = int_sum_by-zero f xs (All-tail (λ y. f y ≡ pos 0) x xs h) in omega (arith, ints)

  pub int_sum_by-add : (f g : X → ℤ) (xs : List X)
      → int_sum_by (λ x. f x +ℤ g x) xs ≡ int_sum_by f xs +ℤ int_sum_by g xs
  int_sum_by-add f g [] = refl
  int_sum_by-add f g (x ∷ xs) = let rest = int_sum_by-add f g xs in omega (arith, ints)

  pub int_sum_by-sub : (f g : X → ℤ) (xs : List X)
      → int_sum_by (λ x. f x -ℤ g x) xs ≡ int_sum_by f xs -ℤ int_sum_by g xs
  int_sum_by-sub f g [] = refl
  int_sum_by-sub f g (x ∷ xs) = let rest = int_sum_by-sub f g xs in omega (arith, ints)

  pub int_sum_by-le : (f g : X → ℤ) (xs : List X) → All (λ x. f x ≤ℤ g x) xs → int_sum_by f xs ≤ℤ int_sum_by g xs
  int_sum_by-le f g [] h = omega (arith, ints)
  int_sum_by-le f g (x ∷ xs) h = let first = All-head (λ y. f y ≤ℤ g y) x xs h in
      let rest = int_sum_by-le f g xs (All-tail (λ y. f y ≤ℤ g y) x xs h) in omega (arith, ints)

  -- where two sums are equal and no term of the one is greater, the terms are equal
  pub int_sum_by-equal : (f g : X → ℤ) (xs : List X) → All (λ x. f x ≤ℤ g x) xs
      → int_sum_by f xs ≡ int_sum_by g xs → All (λ x. f x ≡ g x) xs
  int_sum_by-equal f g [] le e = All-nil (λ x. f x ≡ g x)
  int_sum_by-equal f g (x ∷ xs) le e =
      let first = All-head (λ y. f y ≤ℤ g y) x xs le in
      let others = All-tail (λ y. f y ≤ℤ g y) x xs le in
      let rest = int_sum_by-le f g xs others in
      All-cons (λ y. f y ≡ g y) x xs (omega (arith, ints)) (int_sum_by-equal f g xs others (omega (arith, ints)))

  -- bounds of a sum from bounds of its terms
  pub int_sum_by-not_negative : (f : X → ℤ) (xs : List X) → All (λ x. pos 0 ≤ℤ f x) xs → pos 0 ≤ℤ int_sum_by f xs
  int_sum_by-not_negative f xs h = let bound = int_sum_by-le (λ x. pos 0) f xs h in
      let none = int_sum_by-zero (λ x. pos 0) xs (λ k d within. refl) in omega (arith, ints)

  pub int_sum_by-at_most : (f : X → ℤ) (m : ℕ) (xs : List X) → All (λ x. f x ≤ℤ pos m) xs
      → int_sum_by f xs ≤ℤ pos (length xs * m)
  int_sum_by-at_most f m [] h = omega (arith, ints)
  int_sum_by-at_most f m (x ∷ xs) h = let first = All-head (λ y. f y ≤ℤ pos m) x xs h in
      let rest = int_sum_by-at_most f m xs (All-tail (λ y. f y ≤ℤ pos m) x xs h) in
      omega (arith, ints)

  -- the first n elements and the others
  pub int_sum_by-split : (f : X → ℤ) (n : ℕ) (xs : List X)
      → int_sum_by f xs ≡ int_sum_by f (take n xs) +ℤ int_sum_by f (drop n xs)
  int_sum_by-split f n xs =
      ap (int_sum_by f) (sym (take-append-drop n xs)) ∙ int_sum_by-append f (take n xs) (drop n xs)

  pub int_sum_by-cons_if : (f : X → ℤ) (b : Bool) (x : X) (xs : List X)
      → int_sum_by f (cons_if b x xs) ≡ (if b then f x else pos 0) +ℤ int_sum_by f xs
  int_sum_by-cons_if f true x xs = refl
  int_sum_by-cons_if f false x xs = omega (arith, ints)

pub int_sum_by-map : {X Y : Type 0} (f : Y → ℤ) (g : X → Y) (xs : List X)
    → int_sum_by f (map g xs) ≡ int_sum_by (λ x. f (g x)) xs
int_sum_by-map f g [] = refl
int_sum_by-map f g (x ∷ xs) = ap (λ z. f (g x) +ℤ z) (int_sum_by-map f g xs)

-- two sums exchanged
pub int_sum_by-swap : {X Y : Type 0} (f : X → Y → ℤ) (xs : List X) (ys : List Y)
    → int_sum_by (λ x. int_sum_by (f x) ys) xs ≡ int_sum_by (λ y. int_sum_by (λ x. f x y) xs) ys
int_sum_by-swap f [] ys = sym (int_sum_by-zero (λ y. pos 0) ys (λ k d within. refl))
int_sum_by-swap f (x ∷ xs) ys =
    ap (λ z. int_sum_by (f x) ys +ℤ z) (int_sum_by-swap f xs ys)
    ∙ sym (int_sum_by-add (f x) (λ y. int_sum_by (λ w. f w y) xs) ys)

-- ---- `int_sum_from`

module _ {X : Type 0} where
  pub int_sum_from-append : (f : ℕ → X → ℤ) (n : ℕ) (xs ys : List X)
      → int_sum_from f n (xs ++ ys) ≡ int_sum_from f n xs +ℤ int_sum_from f (n + length xs) ys
  int_sum_from-append f n [] ys = rw add-zero (omega (arith, ints))
  int_sum_from-append f n (x ∷ xs) ys = let rest = int_sum_from-append f (suc n) xs ys in
      let index = ap (λ k. int_sum_from f k ys) {x = suc n + length xs} {y = n + suc (length xs)} (omega arith) in
      omega (arith, ints)

  -- a loop's step
  pub int_sum_from-more : (f : ℕ → X → ℤ) (xs : List X) (i : ℕ) (d : X) → i < length xs
      → int_sum_from f 0 (take (i + 1) xs) ≡ int_sum_from f 0 (take i xs) +ℤ f i (get_or xs i d)
  int_sum_from-more f xs i d within =
      let last = int_sum_from-append f 0 (take i xs) (get_or xs i d ∷ []) in
      let index = ap (λ k. f k (get_or xs i d)) {x = 0 + length (take i xs)} {y = i} (simp length-take (omega (arith, within))) in
      ap (int_sum_from f 0) (take_more xs i d within) ∙ omega (arith, ints)

  pub int_sum_from-same : (f g : ℕ → X → ℤ) (n : ℕ) (xs : List X) → ((i : ℕ) (x : X) → f i x ≡ g i x)
      → int_sum_from f n xs ≡ int_sum_from g n xs
  int_sum_from-same f g n [] h = refl
  int_sum_from-same f g n (x ∷ xs) h = ap₂ ◌+ℤ◌ (h n x) (int_sum_from-same f g (suc n) xs h)

  pub int_sum_from-zero : (f : ℕ → X → ℤ) (n : ℕ) (xs : List X) → ((i : ℕ) (x : X) → n ≤ i → f i x ≡ pos 0)
      → int_sum_from f n xs ≡ pos 0
  int_sum_from-zero f n [] h = refl
  int_sum_from-zero f n (x ∷ xs) h = let first = h n x (omega arith) in
      let rest = int_sum_from-zero f (suc n) xs (λ i y later. h i y (omega (arith, later))) in
      omega (arith, ints)

  pub int_sum_from-add : (f g : ℕ → X → ℤ) (n : ℕ) (xs : List X)
      → int_sum_from (λ i x. f i x +ℤ g i x) n xs ≡ int_sum_from f n xs +ℤ int_sum_from g n xs
  int_sum_from-add f g n [] = refl
  int_sum_from-add f g n (x ∷ xs) =
      let rest = int_sum_from-add f g (suc n) xs in
      omega (arith, ints)

  pub int_sum_from-sub : (f g : ℕ → X → ℤ) (n : ℕ) (xs : List X)
      → int_sum_from (λ i x. f i x -ℤ g i x) n xs ≡ int_sum_from f n xs -ℤ int_sum_from g n xs
  int_sum_from-sub f g n [] = refl
  int_sum_from-sub f g n (x ∷ xs) =
      let rest = int_sum_from-sub f g (suc n) xs in
      omega (arith, ints)

  -- with no use of the indices
  pub int_sum_from-by : (f : X → ℤ) (n : ℕ) (xs : List X) → int_sum_from (λ i x. f x) n xs ≡ int_sum_by f xs
  int_sum_from-by f n [] = refl
  int_sum_from-by f n (x ∷ xs) = ap (λ z. f x +ℤ z) (int_sum_from-by f (suc n) xs)

  -- two sums whose terms compare, or agree, at each index
  int_sum_from-le : (f g : ℕ → X → ℤ) (n : ℕ) (xs : List X)
      → ((i : ℕ) (x : X) → slice_get xs i ≡ Some x → f (n + i) x ≤ℤ g (n + i) x)
      → int_sum_from f n xs ≤ℤ int_sum_from g n xs
  int_sum_from-le f g n [] h = omega (arith, ints)
  int_sum_from-le f g n (x ∷ xs) h = let first : f n x ≤ℤ g n x = rw add-zero at (h 0 x refl) in
      let rest = int_sum_from-le f g (suc n) xs (λ i y at. let index : suc n + i ≡ n + suc i = omega arith in rw index (h (suc i) y at)) in
      omega (arith, ints)

  pub int_sum_from-le_each : (f g : ℕ → X → ℤ) (xs : List X)
      → ((i : ℕ) (x : X) → slice_get xs i ≡ Some x → f i x ≤ℤ g i x)
      → int_sum_from f 0 xs ≤ℤ int_sum_from g 0 xs
  int_sum_from-le_each f g xs h = int_sum_from-le f g 0 xs (λ i x at. rw zero-add (h i x at))

  pub int_sum_from-same_each : (f g : ℕ → X → ℤ) (xs : List X)
      → ((i : ℕ) (x : X) → slice_get xs i ≡ Some x → f i x ≡ g i x)
      → int_sum_from f 0 xs ≡ int_sum_from g 0 xs
  int_sum_from-same_each f g xs h =
      let up = int_sum_from-le_each f g xs (λ i x at. let e = h i x at in omega (arith, ints)) in
      let down = int_sum_from-le_each g f xs (λ i x at. let e = h i x at in omega (arith, ints)) in
      omega (arith, ints)

  -- a sum whose terms are 0 but for the one at index n
  pub int_sum_from-single : (f : ℕ → X → ℤ) (n k : ℕ) (xs : List X) (d : X) → k ≤ n → n < k + length xs
      → ((i : ℕ) (x : X) → i ≢ n → f i x ≡ pos 0)
      → int_sum_from f k xs ≡ f n (get_or xs (n - k) d)
  int_sum_from-single f n k [] d from within h = absurd (omega arith)
  int_sum_from-single f n k (x ∷ xs) d from within h =
      ⊎_elim (λ e. let rest = int_sum_from-zero f (suc k) xs (λ i y later. h i y (omega arith)) in let first : f n (get_or (x ∷ xs) (n - k) d) ≡ f k x = ap₂ f
      (sym e) (ap (λ i. get_or (x ∷ xs) i d) {x = n - k} {y = 0} (omega arith)) in omega (arith, ints))
      (λ other. let first = h k x other in let rest = int_sum_from-single f n (suc k) xs d (omega arith) (omega arith) h in let here : get_or (x ∷ xs)
      (n - k) d ≡ get_or xs (n - suc k) d = ap (λ i. get_or (x ∷ xs) i d) {x = n - k} {y = suc (n - suc k)}
      (omega arith) in let term = ap (f n) here in omega (arith, ints)) (cases_eq k n)

  -- the same for terms that depend on the index alone
  int_sum_from-one_index : (f : ℕ → ℤ) (n : ℕ) (xs : List X) → n < length xs
      → ((i : ℕ) → i ≢ n → f i ≡ pos 0) → int_sum_from (λ i x. f i) 0 xs ≡ f n
  int_sum_from-one_index f n [] within h = absurd (omega arith)
  int_sum_from-one_index f n (x ∷ xs) within h =
      int_sum_from-single (λ i y. f i) n 0 (x ∷ xs) x (omega arith) (omega arith) (λ i y other. h i other)

-- ---- grouping: a sum over indices, of a factor of the index times all that falls to it, is a sum over what falls

module _ {T : Type 0} (index : T → ℕ) (amount : T → ℤ) where
  amount_at : T → ℕ → ℤ
  amount_at t a = if index t == a then amount t else pos 0

  amount_at-other : (c : ℕ → ℤ) (t : T) (a : ℕ) → a ≢ index t → c a *ℤ amount_at t a ≡ pos 0
  unfolding amount_at
  amount_at-other c t a other = rw (ne_eqb (index t) a (λ e. other (sym e))) (*ℤ-zero (c a))

  amount_at-same : (c : ℕ → ℤ) (t : T) → c (index t) *ℤ amount_at t (index t) ≡ c (index t) *ℤ amount t
  unfolding amount_at
  amount_at-same c t = rw (eq-eqb (index t) (index t) refl)

  pub int_sum_from-grouped : {X : Type 0} (c : ℕ → ℤ) (parts : List X) (ts : List T)
      → All (λ t. index t < length parts) ts
      → int_sum_from (λ a x. c a *ℤ int_sum_by (λ t. if index t == a then amount t else pos 0) ts) 0 parts
      ≡ int_sum_by (λ t. c (index t) *ℤ amount t) ts
  unfolding amount_at
  int_sum_from-grouped c parts [] h = int_sum_from-zero (λ a x. c a *ℤ pos 0) 0 parts (λ a x le. *ℤ-zero (c a))
  int_sum_from-grouped c parts (t ∷ ts) h =
      let within = All-head (λ u. index u < length parts) t ts h in
      let rest = int_sum_from-grouped c parts ts (All-tail (λ u. index u < length parts) t ts h) in
      let first = int_sum_from-one_index (λ a. c a *ℤ amount_at t a) (index t) parts within (amount_at-other c t)
      ∙ amount_at-same c t in
      int_sum_from-same (λ a x. c a *ℤ int_sum_by (amount_by a) (t ∷ ts)) (λ a x. c a *ℤ amount_at t a +ℤ c a *ℤ int_sum_by (amount_by a) ts) 0 parts
      (λ a x. *ℤ-+ℤ (c a) (amount_at t a) (int_sum_by (amount_by a) ts))
      ∙ int_sum_from-add (λ a x. c a *ℤ amount_at t a) (λ a x. c a *ℤ int_sum_by (amount_by a) ts) 0 parts
      ∙ ap₂ ◌+ℤ◌ first rest
    where
      amount_by : ℕ → T → ℤ
      amount_by a u = if index u == a then amount u else pos 0
