-- Lists that a loop makes of a list, element by element.
use Rattle.std.proofs.Common.{Contains, List, Some, [], ap, arith, get_or, length, length-append, slice_get, subst, sym, take, ℕ, ◌*◌, ◌++◌, ◌+◌, ◌<◌, ◌∙◌, ◌∷◌}
use Rattle.std.proofs.Common.{◌≡◌, ◌≤◌}
use Rattle.chains.proofs.Words.{enumerate_from, enumerate_from-append, flat_map, flat_map_more, get_or-enumerate_from, get_or_from_slice_get}
use Rattle.chains.proofs.Words.{length-enumerate_from, length-take-le, slice_get_within, take_more}

module _ {X : Type 0} where
  pub Contains-enumerated : (xs : List X) (i : ℕ) (x : X) → slice_get xs i ≡ Some x
      → Contains (enumerate_from 0 xs) (i, x)
  Contains-enumerated xs i x at =
      let within = slice_get_within xs i x at in
      let place : 0 + i ≡ i = omega arith in
      let is = get_or-enumerate_from 0 xs i (i, x) within ∙ ap (λ n. (n, get_or xs i x)) place
      ∙ ap (λ y. (i, y)) (get_or_from_slice_get xs i x x at) in
      (i, omega (arith, within, length-enumerate_from 0 xs), is)

  -- one element more
  pub taken-more : (xs : List X) (i : ℕ) (x : X) → i < length xs → x ≡ get_or xs i x
      → take (i + 1) xs ≡ take i xs ++ x ∷ []
  taken-more xs i x within is = subst (λ y. take (i + 1) xs ≡ take i xs ++ y ∷ []) (sym is) (take_more xs i x within)

  enumerated-more : (xs : List X) (i : ℕ) (x : X) → i < length xs → x ≡ get_or xs i x
      → enumerate_from 0 (take (i + 1) xs) ≡ enumerate_from 0 (take i xs) ++ (i, x) ∷ []
  enumerated-more xs i x within is =
      let count : 0 + length (take i xs) ≡ i = omega (arith, length-take-le i xs (omega (arith, within))) in
      ap (enumerate_from 0) (taken-more xs i x within is) ∙ enumerate_from-append 0 (take i xs) (x ∷ [])
      ∙ ap (λ n. enumerate_from 0 (take i xs) ++ (n, x) ∷ []) count

-- how long it is at most
pub length-flat_map-le : {X Y : Type 0} (f : X → List Y) (most : ℕ) (xs : List X)
    → ((x : X) → length (f x) ≤ most) → length (flat_map f xs) ≤ length xs * most
length-flat_map-le f most [] each = omega arith
length-flat_map-le f most (x ∷ xs) each =
    omega (arith, length-append (f x) (flat_map f xs), each x, length-flat_map-le f most xs each)

module _ {X Y : Type 0} (xs : List X) (i : ℕ) (x : X) (before after now : List Y) (within : i < length xs)
    (is : x ≡ get_or xs i x) where
  pub flat_map-step : (f : X → List Y) → after ≡ before ++ flat_map f (take i xs) → now ≡ after ++ f x
      → now ≡ before ++ flat_map f (take (i + 1) xs)
  flat_map-step f so_far pushed =
      pushed ∙ ap (λ ys. ys ++ f x) so_far ∙ flat_map_more f before (take i xs) x
      ∙ ap (λ ys. before ++ flat_map f ys) (sym (taken-more xs i x within is))

  pub enumerated-step : (f : ℕ × X → List Y) → after ≡ before ++ flat_map f (enumerate_from 0 (take i xs))
      → now ≡ after ++ f (i, x)
      → now ≡ before ++ flat_map f (enumerate_from 0 (take (i + 1) xs))
  enumerated-step f so_far pushed =
      pushed ∙ ap (λ ys. ys ++ f (i, x)) so_far ∙ flat_map_more f before (enumerate_from 0 (take i xs)) (i, x)
      ∙ ap (λ ys. before ++ flat_map f ys) (sym (enumerated-more xs i x within is))
