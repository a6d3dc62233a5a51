-- The parts of a case at other prices of its utilities, and what the case costs then.
use Rattle.std.specs.Prelude.{ℕ, ℤ, List, map, slice_set, Option, MatchOption}
use Rattle.stream_case.specs.declared.case.Case.{Case}
use Rattle.stream_case.specs.declared.source.Source.{Source}
use Rattle.stream_case.specs.declared.source.Source.TheVariants.{Stream as of_stream, Utility as of_utility}
use Rattle.grid.specs.declared.part.Part.{Part}
use Rattle.heat_flow.specs.Certificate.{HoldsOfParts}
use Rattle.heat_flow.specs.Cuts.{HasNoFlow}
use Rattle.heat_flow.specs.Flow.{IsLeastCost}
use Rattle.heat_flow.specs.Prices.{price_at}
use Rattle.heat_flow.specs.Reach.{reach_between}
use Rattle.study_text.specs.Study.{case_prices}

-- the price of a source at these prices of the utilities, one for each in case order; a stream keeps its own
abbrev pub price_of : List ℤ → Source → ℤ → ℤ
price_of prices (of_stream i) own = own
price_of prices (of_utility i) own = price_at prices i

-- the part at these prices: that of a utility has its price, and that of a stream stays
abbrev pub priced_part : List ℤ → Part → Part
priced_part prices p = record p { price = price_of prices p.source p.price }

abbrev pub priced : List ℤ → List Part → List Part
priced prices parts = map (priced_part prices) parts

-- the least cost of the heat flows of the case at these prices
abbrev pub IsLeastCostAt : Case → List ℤ → ℤ → Type 0
IsLeastCostAt c prices cost =
    HoldsOfParts c (λ hot cold. IsLeastCost (reach_between c hot cold) (priced prices hot) (priced prices cold) cost)

-- the case has no heat flow at these prices
abbrev pub HasNoFlowAt : Case → List ℤ → Type 0
HasNoFlowAt c prices =
    HoldsOfParts c (λ hot cold. HasNoFlow (reach_between c hot cold) (priced prices hot) (priced prices cold))

-- the least cost, or none where the case has no heat flow
abbrev pub IsCostAt : Case → List ℤ → Option ℤ → Type 0
IsCostAt c prices cost = MatchOption cost (HasNoFlowAt c prices) (IsLeastCostAt c prices)

-- ---- the price of one utility

-- the prices of the case, with p in place of that of utility number i
abbrev pub prices_with : Case → ℕ → ℤ → List ℤ
prices_with c i p = slice_set (case_prices c) i p
