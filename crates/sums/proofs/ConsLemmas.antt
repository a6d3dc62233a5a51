-- Lists with one more element in front, if a test holds.
use Rattle.std.proofs.Common.{All, AllPairs, Bool, Contains, List, [], arith, false, refl, true, ◌++◌, ◌∷◌, ◌≡◌}
use Rattle.sums.proofs.Words.{All-cons, AllPairs-cons, Contains-append_right, cons_if}

module _ {X : Type 0} where
  pub All-cons_if : (P : X → Type 0) (b : Bool) (x : X) (xs : List X) → (b ≡ true → P x) → All P xs
      → All P (cons_if b x xs)
  All-cons_if P true x xs h k = All-cons P x xs (h refl) k
  All-cons_if P false x xs h k = k

  pub AllPairs-cons_if : (R : X → X → Type 0) (b : Bool) (x : X) (xs : List X) → (b ≡ true → All (R x) xs)
      → AllPairs R xs → AllPairs R (cons_if b x xs)
  AllPairs-cons_if R true x xs h k = AllPairs-cons R x xs (h refl) k
  AllPairs-cons_if R false x xs h k = k

  pub Contains-cons_if : (b : Bool) (x y : X) (xs : List X) → Contains xs y → Contains (cons_if b x xs) y
  Contains-cons_if true x y xs h = Contains-append_right (x ∷ []) xs y h
  Contains-cons_if false x y xs h = h

  pub Contains-cons_if_here : (b : Bool) (x : X) (xs : List X) → b ≡ true → Contains (cons_if b x xs) x
  Contains-cons_if_here true x xs h = (0, omega arith, refl)
  Contains-cons_if_here false x xs h = cc

  pub cons_if-append : (b : Bool) (x : X) (xs ys : List X) → cons_if b x xs ++ ys ≡ cons_if b x (xs ++ ys)
  cons_if-append true x xs ys = refl
  cons_if-append false x xs ys = refl
