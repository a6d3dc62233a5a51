-- The outermost of some temperatures: the greatest or the least.
use Rattle.std.proofs.Common.{All, Contains, List, [], arith, inl, inr, length, refl, suc, sym, ℤ, ◌<◌, ◌∷◌, ◌≡◌, ◌≤ℤ◌, ◌⊎◌}
use Rattle.problem_table.proofs.Words.{Cold, Hot, Side, fold-int_max_bounds, fold-int_max_reached, fold-int_min_bounds, fold-int_min_reached, outermost}
use Rattle.std.proofs.lemmas.List.Elements.{All-cons}

-- x lies at y or outside of it: above it on the hot side, below it on the cold one
abbrev pub IsOutside : Side → ℤ → ℤ → Type 0
IsOutside Hot x y = y ≤ℤ x
IsOutside Cold x y = x ≤ℤ y

pub record IsOutermost (side : Side) (xs : List ℤ) (x : ℤ) : Type 0 where
  pub member : Contains xs x
  pub bound : All (IsOutside side x) xs

made_of : (side : Side) (x : ℤ) (xs : List ℤ) (r : ℤ) → IsOutside side r x × All (IsOutside side r) xs
    → (r ≡ x) ⊎ Contains xs r → IsOutermost side (x ∷ xs) r
made_of side x xs r bounds (inl e) =
    record { member = (0, omega arith, sym e); bound = All-cons (IsOutside side r) x xs bounds.0 bounds.1 }
made_of side x xs r bounds (inr (k, within, is)) =
    record { member = (suc k, omega arith, is); bound = All-cons (IsOutside side r) x xs bounds.0 bounds.1 }

pub IsOutermost-outermost : (side : Side) (xs : List ℤ) → 0 < length xs → IsOutermost side xs (outermost side xs)
IsOutermost-outermost side [] h = absurd (omega arith)
IsOutermost-outermost Hot (x ∷ xs) h =
    let r = outermost Hot (x ∷ xs) in
    made_of Hot x xs r (fold-int_max_bounds x xs r refl) (fold-int_max_reached x xs r refl)
IsOutermost-outermost Cold (x ∷ xs) h =
    let r = outermost Cold (x ∷ xs) in
    made_of Cold x xs r (fold-int_min_bounds x xs r refl) (fold-int_min_reached x xs r refl)
