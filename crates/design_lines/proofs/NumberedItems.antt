-- Lists that are made of numbered items, and the exchangers of such a list.
use Rattle.design_lines.proofs.NameLemmas.{number_of_decimal}
use Rattle.design_lines.proofs.Words.{AllPairs-map, Exchanger, decimal, enumerate_from, exchanger_name, get_or-enumerate_from, length-enumerate_from}
use Rattle.std.proofs.Common.{AllPairs, List, Some, [], ap, arith, length, map, refl, slice_get, suc, sym, zero, ℕ, ◌+◌, ◌<◌, ◌^◌, ◌∙◌, ◌∷◌, ◌≡◌, ◌≢◌}

-- the item at an index comes from the one there
pub numbered-item : {X Y : Type 0} (f : ℕ × X → Y) (n : ℕ) (xs : List X) (i : ℕ) (y : Y)
    → slice_get (map f (enumerate_from n xs)) i ≡ Some y
    → (x : X) × (slice_get xs i ≡ Some x) × (f (n + i, x) ≡ y)
numbered-item f n [] i y at = cc at
numbered-item {X} f n (x ∷ xs) zero y at =
    let here : f (n, x) ≡ y = cc at in
    let none : n + 0 ≡ n = omega arith in (x, refl, ap (λ (k : ℕ). f (k, x)) none ∙ here)
numbered-item f n (x ∷ xs) (suc i) y at =
    let (z, here, is) = numbered-item f (n + 1) xs i y at in
    let further : n + suc i ≡ n + 1 + i = omega arith in
    (z, here, ap (λ (k : ℕ). f (k, z)) further ∙ is)

-- and the one there gives it
pub slice_get-numbered : {X Y : Type 0} (f : ℕ × X → Y) (n : ℕ) (xs : List X) (i : ℕ) (x : X) → slice_get xs i ≡ Some x
    → slice_get (map f (enumerate_from n xs)) i ≡ Some (f (n + i, x))
slice_get-numbered f n [] i x at = cc at
slice_get-numbered {X} f n (y ∷ xs) zero x at =
    let same : y ≡ x = cc at in
    let none : n ≡ n + 0 = omega arith in
    ap (λ (z : X). Some (f (n, z))) same ∙ ap (λ (k : ℕ). Some (f (k, x))) none
slice_get-numbered f n (y ∷ xs) (suc i) x at =
    let further : n + 1 + i ≡ n + suc i = omega arith in
    slice_get-numbered f (n + 1) xs i x at ∙ ap (λ (k : ℕ). Some (f (k, x))) further

-- exchangers that are named by their numbers have different names
pub numbered_names-differ : {X : Type 0} (f : ℕ × X → Exchanger) (xs : List X)
    → ((n : ℕ) (x : X) → (f (n, x)).name ≡ exchanger_name n) → length xs < 2 ^ 32
    → AllPairs (λ a b. a.name ≢ b.name) (map f (enumerate_from 0 xs))
numbered_names-differ {X} f xs named few =
    AllPairs-map (λ (a b : Exchanger). a.name ≢ b.name) f (enumerate_from 0 xs) (λ i j d before within.
    let inside : j < length xs = omega (arith, within, length-enumerate_from 0 xs) in
    let name : ℕ × X → List ℕ = λ e. (f e).name in
    let one = ap name (get_or-enumerate_from 0 xs i d (omega (arith, before, inside))) ∙ named (0 + i) _ in
    let other = ap name (get_or-enumerate_from 0 xs j d inside) ∙ named (0 + j) _ in
    λ same. let digits : decimal (0 + i + 1) ≡ decimal (0 + j + 1) = cc (sym one ∙ same ∙ other) in
    absurd (omega (
      arith,
      number_of_decimal (0 + i) (0 + j) (omega (arith, before, inside, few)) (omega (arith, inside, few)) digits,
      before,
    )))
