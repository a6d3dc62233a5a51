-- The floor under the cost of networks: the value of prices that support the heat flows of the case.
use Rattle.std.specs.Prelude.{◌≡◌, ℕ, ℤ, List, length}
use Rattle.stream_case.specs.Case.{IsComplete}
use Rattle.stream_case.specs.declared.case.Case.{Case}
use Rattle.fractions.specs.Rationals.{IsAtMost, whole}
use Rattle.grid.specs.declared.part.Part.{Part}
use Rattle.grid.specs.Part.{AreCaseParts}
use Rattle.heat_flow.specs.declared.cut.Cut.{Cut}
use Rattle.heat_flow.specs.declared.reach.Reach.{Reach}
use Rattle.heat_flow.specs.Certificate.{IsCutOf}
use Rattle.heat_flow.specs.Prices.{IsSupporting, value_of}
use Rattle.heat_flow.specs.Reach.{reach_between}
use Rattle.heat_flow.specs.Table.{HasSizes, reaches}
use Rattle.networks.specs.Shape.{HasShape}
use Rattle.networks.specs.declared.network.Network.{Network}
use Rattle.network_audit.specs.Balance.{cost_of}
use Rattle.network_audit.specs.Valid.{IsValidNetwork}

-- the table of the pairs of these parts of a case
pub record IsReachOf (case : Case) (hot cold : List Part) (reach : Reach) : Type 0 where
  pub sizes : HasSizes reach (length hot) (length cold)
  pub cells : (a b : ℕ) → reaches reach a b ≡ reach_between case hot cold a b

-- no valid network costs less than the value of supporting prices
abbrev pub NoNetworkCostsLess : Type 0
NoNetworkCostsLess =
    (case : Case) (network : Network) (hot cold : List Part) (y z : List ℤ)
    → IsComplete case → HasShape case network → IsValidNetwork case network → AreCaseParts case hot cold
    → IsSupporting (reach_between case hot cold) y z
    → IsAtMost (whole (value_of hot cold y z)) (cost_of case network)

-- beside a valid network no cut of the case stands
abbrev pub NoCutStands : Type 0
NoCutStands =
    (case : Case) (network : Network) (hot cold : List Part) (cut : Cut)
    → IsComplete case → HasShape case network → IsValidNetwork case network → AreCaseParts case hot cold
    → IsCutOf (reach_between case hot cold) hot cold cut → ⊥
