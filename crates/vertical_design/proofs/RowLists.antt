-- Lists that are made row by row, all rows of one length.
use Rattle.vertical_design.proofs.Words.{All-head, All-tail, Option, cases_eq, cases_order, cons_option, enumerate_from, enumerate_from-append}
use Rattle.vertical_design.proofs.Words.{filter_map, filter_map-append, flat_map, map-append, mul-le-mul_right, range_with_len, range_with_len-append}
use Rattle.vertical_design.proofs.Words.{slice_get-append}
use Rattle.std.proofs.Common.{All, List, None, Some, [], ap, append-nil, ap₂, arith, length, length-append, map, refl, slice_get, suc, sym, zero, ℕ}
use Rattle.std.proofs.Common.{⊎_elim, ◌*◌, ◌++◌, ◌+◌, ◌<◌, ◌∙◌, ◌∷◌, ◌≡◌, ◌≢◌, ◌≤◌}
use Rattle.std.proofs.lemmas.Grind.{flat_map-append}

pub rows_more : {X : Type 0} (f : ℕ → List X) (n : ℕ)
    → flat_map f (range_with_len 0 (n + 1)) ≡ flat_map f (range_with_len 0 n) ++ f n
rows_more {X} f n =
    let none : 0 + n ≡ n = omega arith in
    ap (flat_map f) (sym (range_with_len-append 0 n 1) ∙ ap (λ k. range_with_len 0 n ++ k ∷ []) none)
    ∙ flat_map-append f (range_with_len 0 n) (n ∷ [])
    ∙ ap (λ (xs : List X). flat_map f (range_with_len 0 n) ++ xs) (append-nil (f n))

pub filter_map-rows : {X Y Z : Type 0} (h : Y → Option Z) (f : X → List Y) (xs : List X)
    → filter_map h (flat_map f xs) ≡ flat_map (λ x. filter_map h (f x)) xs
filter_map-rows h f [] = refl
filter_map-rows {X} {Y} {Z} h f (x ∷ xs) =
    filter_map-append h (f x) (flat_map f xs) ∙ ap (λ (zs : List Z). filter_map h (f x) ++ zs) (filter_map-rows h f xs)

pub filter_map-map : {X Y Z : Type 0} (h : Y → Option Z) (f : X → Y) (xs : List X)
    → filter_map h (map f xs) ≡ filter_map (λ x. h (f x)) xs
filter_map-map h f [] = refl
filter_map-map {X} {Y} {Z} h f (x ∷ xs) = ap (cons_option (h (f x))) (filter_map-map h f xs)

pub none_kept : {X Y : Type 0} (h : X → Option Y) (xs : List X) → All (λ x. h x ≡ None) xs → filter_map h xs ≡ []
none_kept h [] none = refl
none_kept {X} h (x ∷ xs) none =
    let R : X → Type 0 = λ y. h y ≡ None in
    ap (λ o. cons_option o (filter_map h xs)) (All-head R x xs none) ∙ none_kept h xs (All-tail R x xs none)

pub map-rows : {X Y Z : Type 0} (h : Y → Z) (f : X → List Y) (xs : List X)
    → map h (flat_map f xs) ≡ flat_map (λ x. map h (f x)) xs
map-rows h f [] = refl
map-rows {X} {Y} {Z} h f (x ∷ xs) =
    map-append h (f x) (flat_map f xs) ∙ ap (λ (zs : List Z). map h (f x) ++ zs) (map-rows h f xs)

pub same-rows : {X Y : Type 0} (f g : X → List Y) → ((x : X) → f x ≡ g x) → (xs : List X)
    → flat_map f xs ≡ flat_map g xs
same-rows f g same [] = refl
same-rows f g same (x ∷ xs) = ap₂ ◌++◌ (same x) (same-rows f g same xs)

-- what one row alone has
pub only_row : {X : Type 0} (f : ℕ → List X) (a count n : ℕ) → a ≤ n → n < a + count
    → ((m : ℕ) → m ≢ n → f m ≡ []) → flat_map f (range_with_len a count) ≡ f n
only_row f a zero n from upto others = absurd (omega arith)
only_row {X} f a (suc count) n from upto others =
    ⊎_elim (λ here. ap (λ xs. f a ++ xs) (no_rows (a + 1) count (omega (arith, here))) ∙ append-nil (f a) ∙ ap f here)
    (λ other. ap (λ (xs : List X). xs ++ flat_map f (range_with_len (a + 1) count)) (others a other)
    ∙ only_row f (a + 1) count n (omega (arith, from, other)) (omega (arith, upto)) others) (cases_eq a n)
  where
    no_rows : (b k : ℕ) → n < b → flat_map f (range_with_len b k) ≡ []
    no_rows b zero past = refl
    no_rows b (suc k) past =
        let none_here = others b (λ same. absurd (omega (arith, same, past))) in
        ap (λ (xs : List X). xs ++ flat_map f (range_with_len (b + 1) k)) none_here
        ∙ no_rows (b + 1) k (omega (arith, past))

-- few in each row, and so in all
pub few-rows : {X : Type 0} (f : ℕ → List X) (most : ℕ) → ((n : ℕ) → length (f n) ≤ most) → (a count : ℕ)
    → length (flat_map f (range_with_len a count)) ≤ count * most
few-rows f most each a zero = omega arith
few-rows f most each a (suc count) =
    omega (
      arith,
      length-append (f a) (flat_map f (range_with_len (a + 1) count)),
      each a,
      few-rows f most each (a + 1) count,
    )

-- ---- rows of one length

-- items behind others
behind : {X : Type 0} (xs ys : List X) (i : ℕ) → slice_get (xs ++ ys) (length xs + i) ≡ slice_get ys i
behind [] ys i = let none : 0 + i ≡ i = omega arith in ap (slice_get ys) none
behind (x ∷ xs) ys i =
    let next : suc (length xs) + i ≡ suc (length xs + i) = omega arith in
    ap (slice_get (x ∷ (xs ++ ys))) next ∙ behind xs ys i

module _ {X : Type 0} (f : ℕ → List X) (len : ℕ) (long : (n : ℕ) → length (f n) ≡ len) where
  place_from : (a count n k : ℕ) (x : X) → n < count → slice_get (f (a + n)) k ≡ Some x
      → slice_get (flat_map f (range_with_len a count)) (n * len + k) ≡ Some x
  place_from a zero n k x within there = absurd (omega arith)
  place_from a (suc count) zero k x within there =
      let same : 0 * len + k ≡ k = omega arith in
      let none : a + 0 ≡ a = omega arith in
      let rest = flat_map f (range_with_len (a + 1) count) in
      ap (slice_get (f a ++ rest)) same
      ∙ slice_get-append (f a) rest k x (ap (λ b. slice_get (f b) k) (sym none) ∙ there)
  place_from a (suc count) (suc n) k x within there =
      let same : suc n * len + k ≡ length (f a) + (n * len + k) = omega (arith, long a) in
      let next : a + suc n ≡ a + 1 + n = omega arith in
      let rest = flat_map f (range_with_len (a + 1) count) in
      ap (slice_get (f a ++ rest)) same ∙ behind (f a) rest (n * len + k)
      ∙ place_from (a + 1) count n k x (omega (arith, within)) (ap (λ b. slice_get (f b) k) (sym next) ∙ there)

  -- an item of a row among all
  pub row_place : (count n k : ℕ) (x : X) → n < count → slice_get (f n) k ≡ Some x
      → slice_get (flat_map f (range_with_len 0 count)) (n * len + k) ≡ Some x
  row_place count n k x within there =
      let none : 0 + n ≡ n = omega arith in
      place_from 0 count n k x within (ap (λ b. slice_get (f b) k) none ∙ there)

  pub length-rows : (a count : ℕ) → length (flat_map f (range_with_len a count)) ≡ count * len
  length-rows a zero = omega arith
  length-rows a (suc count) =
      omega (arith, length-append (f a) (flat_map f (range_with_len (a + 1) count)), long a, length-rows (a + 1) count)

  -- the items of all rows, numbered row by row
  pub numbered-rows : (a count : ℕ)
      → enumerate_from (a * len) (flat_map f (range_with_len a count)) ≡ flat_map (λ n. enumerate_from (n * len) (f n))
      (range_with_len a count)
  numbered-rows a zero = refl
  numbered-rows a (suc count) =
      let next : a * len + length (f a) ≡ (a + 1) * len = omega (arith, long a) in
      let rest = flat_map f (range_with_len (a + 1) count) in
      let rest_numbered = ap (λ b. enumerate_from b rest) next ∙ numbered-rows (a + 1) count in
      enumerate_from-append (a * len) (f a) rest ∙ ap (λ xs. enumerate_from (a * len) (f a) ++ xs) rest_numbered

-- an index has one row, and one place in it
pub same_place : (len n m k j : ℕ) → k < len → j < len → n * len + k ≡ m * len + j → (n ≡ m) × (k ≡ j)
same_place len n m k j k_within j_within same =
    let row = ⊎_elim (λ equal. equal)
    (⊎_elim (λ order. absurd (less n m k j k_within order same)) (λ order.
    absurd (less m n j k j_within order (sym same))))
    (cases_order n m) in
    (row, let rows = ap (λ a. a * len) row in omega (arith, rows, same))
  where
    less : (a b x y : ℕ) → x < len → a < b → a * len + x ≡ b * len + y → ⊥
    less a b x y within order is =
        let next : a + 1 ≤ b = omega (arith, order) in
        let product = mul-le-mul_right len next in
        absurd (omega (arith, product, is, within))
