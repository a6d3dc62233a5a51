-- One item more of lists that are made item by item, what a test keeps, and sums over turned lists.
use Rattle.design_lines.proofs.Words.{All-cons, All-nil, Branch, Option, branch_name, cons_option, enumerate_from, enumerate_from-push, filter_map}
use Rattle.design_lines.proofs.Words.{filter_map-push, length-take-le, map-append, numbered, option_to_list, range_with_len, range_with_len-append, reverse}
use Rattle.design_lines.proofs.Words.{reverse-append, sum_by, sum_by-append, sum_by-cons, take_more}
use Rattle.std.proofs.Common.{All, Bool, List, None, Some, [], ap, arith, false, get_or, if◌then◌else◌, length, map, refl, slice_get, subst, suc, sym, take}
use Rattle.std.proofs.Common.{true, ℕ, ◌++◌, ◌+◌, ◌<◌, ◌∙◌, ◌∷◌, ◌≡◌}

pub enumerate_more : {X : Type 0} (xs : List X) (i : ℕ) (x : X) → i < length xs → x ≡ get_or xs i x
    → enumerate_from 0 (take (i + 1) xs) ≡ enumerate_from 0 (take i xs) ++ (i, x) ∷ []
enumerate_more {X} xs i x within here =
    let more = take_more xs i x within ∙ ap (λ (y : X). take i xs ++ y ∷ []) (sym here) in
    let count : 0 + length (take i xs) ≡ i = omega (arith, length-take-le i xs (omega arith)) in
    ap (enumerate_from 0) more ∙ enumerate_from-push 0 (take i xs) x
    ∙ ap (λ (k : ℕ). enumerate_from 0 (take i xs) ++ (k, x) ∷ []) count

pub map-enumerate_more : {X Y : Type 0} (f : ℕ × X → Y) (xs : List X) (i : ℕ) (x : X) → i < length xs
    → x ≡ get_or xs i x
    → map f (enumerate_from 0 (take (i + 1) xs)) ≡ map f (enumerate_from 0 (take i xs)) ++ f (i, x) ∷ []
map-enumerate_more f xs i x within here =
    ap (map f) (enumerate_more xs i x within here) ∙ map-append f (enumerate_from 0 (take i xs)) ((i, x) ∷ [])

pub filter_map-enumerate_more : {X Y : Type 0} (h : ℕ × X → Option Y) (xs : List X) (i : ℕ) (x : X)
    → i < length xs → x ≡ get_or xs i x
    → filter_map h (enumerate_from 0 (take (i + 1) xs))
    ≡ filter_map h (enumerate_from 0 (take i xs)) ++ option_to_list (h (i, x))
filter_map-enumerate_more h xs i x within here =
    ap (filter_map h) (enumerate_more xs i x within here) ∙ filter_map-push h (enumerate_from 0 (take i xs)) (i, x)

pub numbered_more : (first stream n number : ℕ) → number ≡ first + n
    → numbered first stream (n + 1)
    ≡ numbered first stream n ++ record { name = branch_name number; stream = stream } ∷ []
numbered_more first stream n number is =
    let f : ℕ → Branch = λ k. record { name = branch_name k; stream = stream } in
    ap (map f) (sym (range_with_len-append first n 1) ∙ ap (λ (k : ℕ). range_with_len first n ++ k ∷ []) (sym is))
    ∙ map-append f (range_with_len first n) (number ∷ [])

-- an item of one list is that of the same list
pub item_there : {X : Type 0} {xs ys : List X} (i : ℕ) (x : X) → xs ≡ ys → i < length xs → x ≡ get_or xs i x
    → (i < length ys) × (x ≡ get_or ys i x)
item_there {X} i x same within is =
    (subst (λ (zs : List X). i < length zs) same within, is ∙ ap (λ (zs : List X). get_or zs i x) same)

-- what holds of all that a test keeps
pub All-kept : {X : Type 0} (P : X → Type 0) (b : Bool) (x : X) (xs : List X) → (b ≡ true → P x) → All P xs
    → All P (cons_option (if b then Some x else None) xs)
All-kept P true x xs is all = All-cons P _ _ (is refl) all
All-kept P false x xs is all = all

-- what holds of the item of each own one of numbered things holds of all items that are kept
module _ {X Y : Type 0} (own : X → Bool) (kept : ℕ × X → Option Y) (item : ℕ → X → Y)
    (is_kept : (n : ℕ) (x : X) → kept (n, x) ≡ (if own x then Some (item n x) else None)) where
  pub kept_hold : (P : Y → Type 0) (n : ℕ) (xs : List X)
      → ((i : ℕ) (x : X) → slice_get xs i ≡ Some x → own x ≡ true → P (item (n + i) x))
      → All P (filter_map kept (enumerate_from n xs))
  kept_hold P n [] each = All-nil P
  kept_hold P n (x ∷ xs) each =
      let later = filter_map kept (enumerate_from (n + 1) xs) in
      let rest = kept_hold P (n + 1) xs (λ i y at is_own.
      subst (λ (k : ℕ). P (item k y)) (omega arith) (each (suc i) y at is_own)) in
      let kept_later = All-kept P (own x) (item n x) later (λ is_own.
      subst (λ (k : ℕ). P (item k x)) (omega arith) (each 0 x refl is_own)) rest in
      subst (λ (o : Option Y). All P (cons_option o later)) (sym (is_kept n x)) kept_later

-- a sum is the same over the turned list
pub sum_by-reverse : {X : Type 0} (f : X → ℕ) (xs : List X) → sum_by f (reverse xs) ≡ sum_by f xs
sum_by-reverse f [] = refl
sum_by-reverse f (x ∷ xs) =
    let turned = ap (sum_by f) (reverse-append (x ∷ []) xs) ∙ sum_by-append f (reverse xs) (x ∷ []) in
    omega (arith, turned, sum_by-reverse f xs, sum_by-cons f x xs, sum_by-cons f x [])
