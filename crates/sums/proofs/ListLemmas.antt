-- Elements of lists by their indices, and options.
use Rattle.std.proofs.Common.{All, Contains, List, None, Option, Some, [], ap, arith, filter_map, flat_map, inl, inr, length, map, option_map, option_to_list}
use Rattle.std.proofs.Common.{refl, slice_get, subst, suc, sym, zero, ℕ, ⊎_elim, ◌++◌, ◌∙◌, ◌∷◌, ◌≡◌, ◌⊎◌}
use Rattle.sums.proofs.Words.{All-append, All-cons, All-head, All-nil, All-tail, Contains-append_left, Contains-append_right, cons_option, filter_map-append}
use Rattle.std.proofs.lemmas.Option.{get_or_from_slice_get, slice_get_within}
use Rattle.sums.proofs.OrderLemmas.{Contains-cons}

module _ {X : Type 0} where
  -- what stands in a list stands there too with more behind it, and in a front that is long enough
  pub slice_get-append : (xs ys : List X) (i : ℕ) (x : X) → slice_get xs i ≡ Some x → slice_get (xs ++ ys) i ≡ Some x
  slice_get-append [] ys i x at = cc at
  slice_get-append (a ∷ xs) ys zero x at = at
  slice_get-append (a ∷ xs) ys (suc i) x at = slice_get-append xs ys i x at

  pub slice_get_push : (xs : List X) (y : X) (i : ℕ) (x : X) → slice_get (xs ++ y ∷ []) i ≡ Some x
      → (slice_get xs i ≡ Some x) ⊎ ((i ≡ length xs) × (x ≡ y))
  slice_get_push [] y zero x at = inr (refl, cc at)
  slice_get_push [] y (suc i) x at = cc at
  slice_get_push (a ∷ xs) y zero x at = inl at
  slice_get_push (a ∷ xs) y (suc i) x at =
      ⊎_elim (λ here. inl here) (λ last. inr (ap suc last.0, last.1)) (slice_get_push xs y i x at)

  -- what holds of each element holds of one at an index
  pub All-slice_get : (P : X → Type 0) (xs : List X) (i : ℕ) (x : X) → All P xs → slice_get xs i ≡ Some x → P x
  All-slice_get P xs i x each at = subst P (get_or_from_slice_get xs i x x at) (each i x (slice_get_within xs i x at))

  pub Contains-slice_get : (xs : List X) (i : ℕ) (x : X) → slice_get xs i ≡ Some x → Contains xs x
  Contains-slice_get xs i x at = (i, slice_get_within xs i x at, get_or_from_slice_get xs i x x at)

module _ {X Y : Type 0} where
  pub option_map-slice_get-append : (f : X → Y) (xs ys : List X) (i : ℕ) (y : Y)
      → option_map f (slice_get xs i) ≡ Some y
      → option_map f (slice_get (xs ++ ys) i) ≡ Some y
  option_map-slice_get-append f [] ys i y at = cc at
  option_map-slice_get-append f (x ∷ xs) ys zero y at = at
  option_map-slice_get-append f (x ∷ xs) ys (suc i) y at = option_map-slice_get-append f xs ys i y at

  -- one element more
  pub filter_map-push : (f : X → Option Y) (xs : List X) (x : X)
      → filter_map f (xs ++ x ∷ []) ≡ filter_map f xs ++ option_to_list (f x)
  filter_map-push f xs x = filter_map-append f xs (x ∷ []) ∙ ap (λ ys. filter_map f xs ++ ys) (alone (f x))
    where
      alone : (o : Option Y) → cons_option o [] ≡ option_to_list o
      alone None = refl
      alone (Some y) = refl

  -- what holds of the values of a function holds of it
  pub All-from_map : (P : Y → Type 0) (f : X → Y) (xs : List X) → All P (map f xs) → All (λ x. P (f x)) xs
  All-from_map P f [] h = All-nil (λ x. P (f x))
  All-from_map P f (x ∷ xs) h =
      All-cons (λ y. P (f y)) x xs (All-head P (f x) (map f xs) h) (All-from_map P f xs (All-tail P (f x) (map f xs) h))

  -- ---- lists joined end to end

  pub All-flat_map : (P : Y → Type 0) (f : X → List Y) (xs : List X) → All (λ x. All P (f x)) xs → All P (flat_map f xs)
  All-flat_map P f [] each = All-nil P
  All-flat_map P f (x ∷ xs) each =
      All-append P (f x) (flat_map f xs) (All-head (λ z. All P (f z)) x xs each) (All-flat_map P f xs (All-tail (λ z. All P (f z)) x xs each))

  pub Contains-flat_map : (f : X → List Y) (xs : List X) (x : X) (y : Y) → Contains xs x → Contains (f x) y
      → Contains (flat_map f xs) y
  Contains-flat_map f [] x y (i, within, is) there = absurd (omega (arith, within))
  Contains-flat_map f (z ∷ xs) x y found there =
      ⊎_elim (λ same. Contains-append_left (f z) (flat_map f xs) y (subst (λ w. Contains (f w) y) (sym same) there))
      (λ later. Contains-append_right (f z) (flat_map f xs) y (Contains-flat_map f xs x y later there)) (Contains-cons z xs x found)
