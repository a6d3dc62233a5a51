-- The value of prices that support the heat flows of a case: none costs less.
use Rattle.std.specs.Prelude.{◌≡◌, ℕ, Bool, ℤ, List}
use Rattle.stream_case.specs.declared.case.Case.{Case}
use Rattle.grid.specs.declared.part.Part.{Part}
use Rattle.heat_flow.specs.declared.prices.Prices.{Prices}
use Rattle.heat_flow.specs.Certificate.{HoldsOfParts}
use Rattle.heat_flow.specs.Prices.{IsSupporting, value_of}
use Rattle.heat_flow.specs.Reach.{reach_between}

-- some prices of these parts have this value, where `reach a b` tells whether hot part a reaches cold part b
pub record IsValueBetween (reach : ℕ → ℕ → Bool) (hot cold : List Part) (value : ℤ) : Type 0 where
  pub prices : Prices
  pub supporting : IsSupporting reach prices.hot prices.cold
  pub is : value_of hot cold prices.hot prices.cold ≡ value

-- the same of the parts of the case
abbrev pub IsValueOf : Case → ℤ → Type 0
IsValueOf c value = HoldsOfParts c (λ hot cold. IsValueBetween (reach_between c hot cold) hot cold value)
