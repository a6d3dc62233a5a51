-- Sums of integers over lists.
use Rattle.std.specs.Prelude.{ℕ, suc, ℤ, pos, ◌+ℤ◌, List, [], ◌∷◌}

-- the sum of f over a list
abbrev pub int_sum_by : {X : Type 0} → (X → ℤ) → List X → ℤ
int_sum_by f [] = pos 0
int_sum_by f (x ∷ xs) = f x +ℤ int_sum_by f xs

-- the sum of f over the elements of a list with their indices, of which the first is n
abbrev pub int_sum_from : {X : Type 0} → (ℕ → X → ℤ) → ℕ → List X → ℤ
int_sum_from f n [] = pos 0
int_sum_from f n (x ∷ xs) = f n x +ℤ int_sum_from f (suc n) xs
