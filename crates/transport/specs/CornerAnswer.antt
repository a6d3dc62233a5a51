-- The corner flow as the answer of a standard case.
use Rattle.std.specs.Prelude.{◌≡◌, ◌≤◌, ◌+◌, ◌-◌, List, length}
use Rattle.stream_case.specs.declared.source.Side.TheVariants.{Hot, Cold}
use Rattle.stream_case.specs.declared.case.Case.{Case}
use Rattle.problem_table.specs.Deficit.{hot_target, cold_target}
use Rattle.grid.specs.declared.part.Part.{Part}
use Rattle.heat_flow.specs.declared.flow.Flow.{Flow}
use Rattle.heat_flow.specs.declared.prices.Prices.{Prices}
use Rattle.corner_flow.specs.Corner.{IsCornerFlow, AreCornerPrices, UtilityHeat, NeedsHeat}
use Rattle.transport.specs.declared.answer.Answer.{Answer}
use Rattle.transport.specs.declared.answer.Answer.TheVariants.{Least}

-- the corner flow with its prices. It has fewer transfers than parts, and its cost is the hot target; `HOT` gives the
-- hot target and `COLD` takes the cold target, and no heat flow does with less of either
pub record IsCornerAnswer (c : Case) (hot cold : List Part) (answer : Answer) : Type 0 where
  pub flow : Flow
  pub prices : Prices
  pub is : answer ≡ Least flow prices (hot_target c.streams)
  pub corner : IsCornerFlow c hot cold flow.transfers
  pub few : length flow.transfers ≤ length hot + length cold - 1
  pub hot_heat : UtilityHeat Hot hot flow.transfers (hot_target c.streams)
  pub cold_heat : UtilityHeat Cold cold flow.transfers (cold_target c.streams)
  pub least_hot : NeedsHeat c hot cold Hot (hot_target c.streams)
  pub least_cold : NeedsHeat c hot cold Cold (cold_target c.streams)
  pub corner_prices : AreCornerPrices c hot cold prices
