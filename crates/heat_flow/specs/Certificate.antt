-- What certifies a heat flow of least cost, or that there is none, and the same of the parts of a case.
use Rattle.std.specs.Prelude.{◌≡◌, Bool, false, ℕ, if◌then◌else◌, ℤ, pos, List, length, All, slice_get}
use Rattle.std.specs.Option.{option_map_or}
use Rattle.stream_case.specs.declared.source.Side.{Side}
use Rattle.stream_case.specs.declared.source.Source.TheVariants.{Utility as of_utility}
use Rattle.stream_case.specs.declared.case.Case.{Case}
use Rattle.stream_case.specs.Limits.{IsPartPrice}
use Rattle.stream_case.specs.Source.{same_source}
use Rattle.sums.specs.Sum.{int_sum_by}
use Rattle.grid.specs.declared.part.Part.{Part}
use Rattle.grid.specs.Part.{AreCaseParts}
use Rattle.heat_flow.specs.declared.cut.Cut.{Cut}
use Rattle.heat_flow.specs.declared.flow.Transfer.{Transfer}
use Rattle.heat_flow.specs.Cuts.{opposite, parts_of, cut_side, need_of, offer_of, IsCut, HasNoFlow}
use Rattle.heat_flow.specs.Flow.{part_index, IsHeatFlow, IsLeastCost, cost_of}
use Rattle.heat_flow.specs.Prices.{IsSupporting, value_of}
use Rattle.heat_flow.specs.Reach.{reach_between}

-- one price for each part, within the limits
pub record ArePartPrices (parts : List Part) (prices : List ℤ) : Type 0 where
  pub one_each : length prices ≡ length parts
  pub within : All IsPartPrice prices

-- a heat flow, where `reach a b` tells whether hot part a reaches cold part b, and prices that support every heat flow:
-- both have this cost, the one as its cost and the other as their value
pub record IsCertified (reach : ℕ → ℕ → Bool) (hot cold : List Part) (transfers : List Transfer) (y z : List ℤ)
    (cost : ℤ) : Type 0 where
  pub flow : IsHeatFlow reach hot cold transfers
  pub supporting : IsSupporting reach y z
  pub hot_prices : ArePartPrices hot y
  pub cold_prices : ArePartPrices cold z
  pub costs : cost_of hot cold transfers ≡ cost
  pub value : value_of hot cold y z ≡ cost

-- a cut of these parts with its need and its offer, where `reach a b` tells whether hot part a reaches cold part b
pub record IsCutOf (reach : ℕ → ℕ → Bool) (hot cold : List Part) (cut : Cut) : Type 0 where
  pub parts : IsCut (cut_side cut.kind) reach hot cold cut.parts
  pub need : cut.need ≡ need_of (parts_of (cut_side cut.kind) hot cold) cut.parts
  pub offer : cut.offer ≡ offer_of (cut_side cut.kind) reach (parts_of (opposite (cut_side cut.kind)) hot cold) cut.parts

-- ---- the use of a utility

-- the part at an index is that of utility i
abbrev pub is_of_utility : ℕ → List Part → ℕ → Bool
is_of_utility i parts index = option_map_or (λ p. same_source p.source (of_utility i)) (slice_get parts index) false

-- the heat of a transfer, if its part of this side is that of utility i
abbrev pub heat_of_utility : ℕ → Side → List Part → Transfer → ℤ
heat_of_utility i side parts t = if is_of_utility i parts (part_index side t) then t.heat else pos 0

-- what utility i gives or takes in all
abbrev pub utility_heat : ℕ → Side → List Part → List Transfer → ℤ
utility_heat i side parts transfers = int_sum_by (heat_of_utility i side parts) transfers

-- ---- the parts of a case

-- the case has parts, and this holds of them
pub record HoldsOfParts (c : Case) (P : List Part → List Part → Type 0) : Type 0 where
  pub some : (hot : List Part) × (cold : List Part) × AreCaseParts c hot cold
  pub each : (hot cold : List Part) → AreCaseParts c hot cold → P hot cold

-- a heat flow of these parts of the case
abbrev pub IsFlowOf : Case → List Part → List Part → List Transfer → Type 0
IsFlowOf c hot cold transfers = IsHeatFlow (reach_between c hot cold) hot cold transfers

-- this is the least cost of the heat flows of the case
abbrev pub IsLeastCostOf : Case → ℤ → Type 0
IsLeastCostOf c cost = HoldsOfParts c (λ hot cold. IsLeastCost (reach_between c hot cold) hot cold cost)

-- the case has no heat flow
abbrev pub HasNoFlowOf : Case → Type 0
HasNoFlowOf c = HoldsOfParts c (λ hot cold. HasNoFlow (reach_between c hot cold) hot cold)
