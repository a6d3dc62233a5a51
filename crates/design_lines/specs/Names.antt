-- The names of exchangers and of branches that a design makes.
use Rattle.std.specs.Prelude.{ℕ, ◌+◌, List, ◌∷◌}
use Rattle.std.specs.Fmt.{decimal}

-- E1, E2 and so on: 69 is E
abbrev pub exchanger_name : ℕ → List ℕ
exchanger_name number = 69 ∷ decimal (number + 1)

-- .1, .2 and so on: 46 is the dot
abbrev pub branch_name : ℕ → List ℕ
branch_name number = 46 ∷ decimal (number + 1)
