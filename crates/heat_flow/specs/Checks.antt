-- What the checks of flows and prices say, with the sizes of lists and tables.
use Rattle.std.specs.Prelude.{◌≡◌, ℕ, ◌<◌, ◌≤◌, Bool, IsTrue, ℤ, pos, ◌<ℤ◌, ◌≤ℤ◌, List, length, Some, slice_get, slice_index_or}
use Rattle.stream_case.specs.declared.limits.TheConstants.{MOST_PARTS}
use Rattle.stream_case.specs.declared.source.Side.TheVariants.{Hot, Cold}
use Rattle.stream_case.specs.Limits.{IsBetween}
use Rattle.grid.specs.declared.part.Part.{Part}
use Rattle.heat_flow.specs.declared.cut.Cut.{Cut}
use Rattle.heat_flow.specs.declared.flow.Transfer.{Transfer}
use Rattle.heat_flow.specs.declared.reach.Reach.{Reach}
use Rattle.heat_flow.specs.Certificate.{IsCutOf}
use Rattle.heat_flow.specs.Flow.{heat_at, HaveParts, ArePositive, IsHeatFlow}
use Rattle.heat_flow.specs.Prices.{IsSupporting}
use Rattle.heat_flow.specs.Table.{HasSizes, reaches}

-- a transfer of heat between two of these parts that reach
pub record IsTransfer (reach : ℕ → ℕ → Bool) (hot cold : List Part) (t : Transfer) : Type 0 where
  pub hot_index : t.hot < length hot
  pub cold_index : t.cold < length cold
  pub positive : pos 0 <ℤ t.heat
  pub joined : IsTrue (reach t.hot t.cold)

-- a heat flow over these parts and this table of them
pub record IsFlowOver (hot cold : List Part) (r : Reach) (transfers : List Transfer) : Type 0 where
  pub sizes : HasSizes r (length hot) (length cold)
  pub flow : IsHeatFlow (reaches r) hot cold transfers

-- a cut of these parts and this table of them, with its need and its offer
pub record IsCutOver (hot cold : List Part) (r : Reach) (cut : Cut) : Type 0 where
  pub sizes : HasSizes r (length hot) (length cold)
  pub is_cut : IsCutOf (reaches r) hot cold cut

-- only so many hot and cold parts reach, which are few
pub record ReachesAmong (reach : ℕ → ℕ → Bool) (hots colds : ℕ) : Type 0 where
  pub few_hots : hots ≤ MOST_PARTS
  pub few_colds : colds ≤ MOST_PARTS
  pub within : (a b : ℕ) → IsTrue (reach a b) → (a < hots) × (b < colds)

-- prices for this table that support its heat flows
pub record IsSupported (r : Reach) (y z : List ℤ) : Type 0 where
  pub sizes : HasSizes r (length y) (length z)
  pub supporting : IsSupporting (reaches r) y z

-- what the cost of transfers asks of them, as each heat flow has it: the hot parts give at most their mosts
pub record HasCost (hot cold : List Part) (transfers : List Transfer) : Type 0 where
  pub positive : ArePositive transfers
  pub hot_indexes : HaveParts Hot hot transfers
  pub cold_indexes : HaveParts Cold cold transfers
  pub most : (a : ℕ) (p : Part) → slice_get hot a ≡ Some p → heat_at Hot transfers a ≤ℤ p.most

-- each part's sum, at its index in a list of sums, is within the part's range
abbrev pub SumsWithin : List Part → List ℤ → Type 0
SumsWithin parts sums =
    (a : ℕ) (p : Part) → slice_get parts a ≡ Some p → IsBetween p.least p.most (slice_index_or sums a (pos 0))
