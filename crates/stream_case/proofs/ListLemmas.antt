-- Options, and lists one element longer.
use Rattle.std.proofs.Common.{All, Bool, List, None, Option, Some, [], ap, cond, false, is_some, length, map, nat_lt, not, position, refl, slice_get, suc, sym}
use Rattle.std.proofs.Common.{zero, ℕ, ◌++◌, ◌+◌, ◌∙◌, ◌∷◌, ◌≡◌}
use Rattle.std.proofs.Math.Seq.{drop-append_seam, take-append_seam}
use Rattle.stream_case.proofs.Words.{All-drop, All-take, cons_option, filter_map, filter_map-append, length-map, option_to_list, prefix_len}

pub none_there : {X : Type 0} (o : Option X) → is_some o ≡ false → o ≡ None
none_there None e = refl
none_there (Some x) e = cc e

-- what stands in a list stands there too with more behind it
pub slice_get-append : {X : Type 0} (xs ys : List X) (i : ℕ) (x : X) → slice_get xs i ≡ Some x
    → slice_get (xs ++ ys) i ≡ Some x
slice_get-append [] ys i x at = cc at
slice_get-append (a ∷ xs) ys zero x at = at
slice_get-append (a ∷ xs) ys (suc i) x at = slice_get-append xs ys i x at

-- what holds of each element of two lists in a row holds of those of each
pub All-front : {X : Type 0} (P : X → Type 0) (xs ys : List X) → All P (xs ++ ys) → All P xs
All-front P xs ys all = rw take-append_seam at (All-take P (length xs) (xs ++ ys) all)

pub All-back : {X : Type 0} (P : X → Type 0) (xs ys : List X) → All P (xs ++ ys) → All P ys
All-back P xs ys all = rw drop-append_seam at (All-drop P (length xs) (xs ++ ys) all)

-- one element more
pub filter_map-push : {X Y : Type 0} (h : X → Option Y) (xs : List X) (x : X)
    → filter_map h (xs ++ x ∷ []) ≡ filter_map h xs ++ option_to_list (h x)
filter_map-push {Y = Y} h xs x = filter_map-append h xs (x ∷ []) ∙ ap (λ ys. filter_map h xs ++ ys) (alone (h x))
  where
    alone : (o : Option Y) → cons_option o [] ≡ option_to_list o
    alone None = refl
    alone (Some y) = refl

-- the first of the values that passes
pub position-map : {X Y : Type 0} (p : Y → Bool) (f : X → Y) (xs : List X)
    → position (λ x. p (f x)) xs ≡ position p (map f xs)
position-map {X} {Y} p f xs =
    let place = front (λ y. not (p y)) xs in
    let long = sym (length-map xs f) in
    λ i. cond (nat_lt (place i) (long i)) (Some (place i)) None
  where
    front : (q : Y → Bool) (ys : List X) → prefix_len (λ x. q (f x)) ys ≡ prefix_len q (map f ys)
    front q [] = refl
    front q (x ∷ ys) = ap (λ n. cond (q (f x)) (1 + n) 0) (front q ys)
