-- Items of a list, of its front, and of a list with more behind it.
use Rattle.std.proofs.Common.{All, AllPairs, List, [], ap, append-nil, append_assoc, arith, drop, flat_map, length, refl, slice_get, subst, suc, sym, take}
use Rattle.std.proofs.Common.{take-append-drop, zero, ℕ, ◌++◌, ◌+◌, ◌<◌, ◌∙◌, ◌∷◌, ◌≡◌}
use Rattle.networks.proofs.Words.{All-push, AllPairs-front, all_pairs_push, enumerate_from, enumerate_from-append, flat_map-append}
pub use Rattle.stream_case.proofs.ListLemmas.{All-back, All-front}
pub use Rattle.sums.proofs.ListLemmas.{All-flat_map, All-slice_get as all_at}
pub use Rattle.sums.proofs.OrderLemmas.{AllPairs-map}

-- ---- items

-- the first items are those of the front
pub slice_get-take : {X : Type 0} (m : ℕ) (xs : List X) (i : ℕ) → i < m → slice_get (take m xs) i ≡ slice_get xs i
slice_get-take zero xs i early = absurd (omega (arith, early))
slice_get-take (suc m) [] i early = refl
slice_get-take (suc m) (x ∷ xs) zero early = refl
slice_get-take (suc m) (x ∷ xs) (suc i) early = slice_get-take m xs i (omega (arith, early))

-- one element more
pub flat_map-push : {X Y : Type 0} (h : X → List Y) (xs : List X) (x : X)
    → flat_map h (xs ++ x ∷ []) ≡ flat_map h xs ++ h x
flat_map-push h xs x = flat_map-append h xs (x ∷ []) ∙ ap (λ ys. flat_map h xs ++ ys) (append-nil (h x))

pub enumerate_from-push : {X : Type 0} (n : ℕ) (xs : List X) (x : X)
    → enumerate_from n (xs ++ x ∷ []) ≡ enumerate_from n xs ++ (n + length xs, x) ∷ []
enumerate_from-push n xs x = enumerate_from-append n xs (x ∷ [])

-- ---- pairs

pub AllPairs-take : {X : Type 0} (R : X → X → Type 0) (m : ℕ) (xs : List X) → AllPairs R xs → AllPairs R (take m xs)
AllPairs-take R m xs pairs =
    AllPairs-front R (take m xs) (drop m xs) (subst (AllPairs R) (sym (take-append-drop m xs)) pairs)

pub two_pushed : {X : Type 0} (R : X → X → Type 0) (xs : List X) (y z : X) → AllPairs R xs
    → All (λ x. R x y) xs → All (λ x. R x z) xs → R y z
    → AllPairs R (xs ++ y ∷ z ∷ [])
two_pushed R xs y z pairs first second last =
    let one = all_pairs_push R xs y pairs first in
    let all = all_pairs_push R (xs ++ y ∷ []) z one (All-push (λ x. R x z) xs y second last) in
    subst (AllPairs R) (append_assoc xs (y ∷ []) (z ∷ [])) all
