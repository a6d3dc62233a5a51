-- Lists that are fixed by their members and their order.
use Rattle.std.specs.Prelude.{ℤ, ◌<ℤ◌, List, All, AllPairs, Contains}

-- the list of exactly the values that meet P, each once, in the order `before`
pub record Lists {X : Type 0} (before : X → X → Type 0) (P : X → Type 0) (xs : List X) : Type 0 where
  pub ordered : AllPairs before xs
  pub each : All P xs
  pub every : (x : X) → P x → Contains xs x

-- the same for numbers, from the least up, and from the greatest down
abbrev pub ListsRising : (ℤ → Type 0) → List ℤ → Type 0
ListsRising P xs = Lists (λ a b. a <ℤ b) P xs

abbrev pub ListsFalling : (ℤ → Type 0) → List ℤ → Type 0
ListsFalling P xs = Lists (λ a b. b <ℤ a) P xs
