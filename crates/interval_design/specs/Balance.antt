-- The balance of a heat flow, which is that of its network.
use Rattle.std.specs.Prelude.{ℤ, pos, ◌-ℤ◌, List, if◌then◌else◌}
use Rattle.stream_case.specs.Source.{is_stream}
use Rattle.stream_case.specs.declared.case.Case.{Case}
use Rattle.stream_case.specs.declared.source.Side.{Side}
use Rattle.stream_case.specs.declared.source.Side.TheVariants as side
use Rattle.sums.specs.Sum.{int_sum_from}
use Rattle.fractions.specs.Rationals.{whole}
use Rattle.problem_table.specs.Deficit.{hot_target}
use Rattle.network_audit.specs.declared.verdict.Balance.{Balance}
use Rattle.grid.specs.declared.part.Part.{Part}
use Rattle.heat_flow.specs.Flow.{cost_of, heat_at}
use Rattle.heat_flow.specs.declared.flow.Transfer.{Transfer}

-- the heat of the utilities of a side, part by part
abbrev pub utilities_heat : Side → List Part → List Transfer → ℤ
utilities_heat of parts transfers =
    int_sum_from (λ a p. if is_stream p.source then pos 0 else heat_at of transfers a) 0 parts

-- what the hot utilities give, what the cold ones take, what the hot ones give beyond the hot target, and the cost of
-- the flow
abbrev pub flow_balance : Case → List Part → List Part → List Transfer → Balance
flow_balance case hot cold transfers = record {
  hot = whole (utilities_heat side.Hot hot transfers);
  cold = whole (utilities_heat side.Cold cold transfers);
  excess = whole (utilities_heat side.Hot hot transfers -ℤ hot_target case.streams);
  cost = whole (cost_of hot cold transfers);
}
