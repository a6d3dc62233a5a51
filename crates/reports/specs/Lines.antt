-- Lines of a text, and lists of them.
use Rattle.std.specs.Prelude.{ℕ, suc, ℤ, List, [], ◌∷◌, ◌++◌, Option, Some, None, codes}
use Rattle.std.specs.Fmt.{signed_decimal}

-- a line of a word and a number
abbrev pub line : List ℕ → ℤ → List ℕ
line word number = word ++ 32 ∷ (signed_decimal number ++ 10 ∷ [])

-- a line of a word, and that there is no heat flow
abbrev pub infeasible_line : List ℕ → List ℕ
infeasible_line word = word ++ codes " infeasible\n"

-- a line of a word and the least cost, or that there is no heat flow
abbrev pub cost_line : List ℕ → Option ℤ → List ℕ
cost_line word (Some cost) = line word cost
cost_line word None = infeasible_line word

-- a text for each element of a list by its index, of which the first is n
abbrev pub texts_from : {X : Type 0} → (ℕ → X → List ℕ) → ℕ → List X → List ℕ
texts_from f n [] = []
texts_from f n (x ∷ xs) = f n x ++ texts_from f (suc n) xs
