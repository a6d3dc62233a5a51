-- What the branches of a network are worth at step prices, and the heat of its utilities.
use Rattle.std.specs.Prelude.{ℕ, All, AllPairs, Option, Some, None, slice_get}
use Rattle.std.specs.List.{enumerate_from}
use Rattle.stream_case.specs.declared.case.Case.{Case}
use Rattle.stream_case.specs.declared.source.Side.{Side}
use Rattle.stream_case.specs.declared.source.Side.TheVariants as side
use Rattle.stream_case.specs.declared.source.Source.{Source}
use Rattle.stream_case.specs.declared.source.Source.TheVariants as source
use Rattle.stream_case.specs.declared.stream.Stream.{Stream}
use Rattle.fractions.specs.Rationals.{IsAtMost, Rational, plus, rational_sum_by, rational_zero, times}
use Rattle.networks.specs.Lines.{Exchanger, exchangers_of}
use Rattle.networks.specs.Shape.{HasShape}
use Rattle.networks.specs.declared.network.Network.{Network}
use Rattle.network_values.specs.Heights.{share_in}
use Rattle.network_values.specs.OneScale.{shifted_run}
use Rattle.network_values.specs.Penalties.{height_in}
use Rattle.network_values.specs.Sides.{KeepApproaches, SideRun}
use Rattle.network_values.specs.Values.{AreEnded, IsWholeValuation, Valuation}
use Rattle.network_values.specs.Weights.{Weight, stream_loss}
use Rattle.network_values.specs.declared.values.BranchValue.{BranchValue}
use Rattle.network_audit.specs.Valid.{IsPermitted}
use Rattle.price_floor.specs.Steps.{IsOrderedTariff, Tariff, step_worth}
use Rattle.price_floor.specs.Views.{comes_below}

-- a branch by its size times its state, and its height in each view; 0, of which no rule speaks, where there is no
-- stream
abbrev pub value_worth : Tariff → ℕ → Option Stream → BranchValue → Rational
value_worth tariff i None value = rational_zero
value_worth tariff i (Some s) value =
    step_worth tariff.least tariff.views (tariff.prices s.side (source.Stream i)) (times value.cp value.t) (λ v. height_in v s value)

unfoldable pub branch_worth : Case → Tariff → Weight
branch_worth case tariff i value = value_worth tariff i (slice_get case.streams i) value

-- the duty of a side with a utility, by its share in each view of how the side runs; nothing of a side with a stream
abbrev pub utility_worth : (Source → SideRun) → Tariff → Side → Rational → Source → Rational
utility_worth run tariff on duty (source.Stream i) = rational_zero
utility_worth run tariff on duty (source.Utility i) =
    step_worth tariff.least tariff.views (tariff.prices on (source.Utility i)) duty (λ v. share_in v duty (run (source.Utility i)))

-- the sides of an exchanger with its number
abbrev pub hot_worth : Case → Network → Valuation → Tariff → ℕ × Exchanger → Rational
hot_worth case network values tariff (number, e) =
    utility_worth (shifted_run side.Hot case network values number) tariff side.Hot e.duty e.hot

abbrev pub cold_worth : Case → Network → Valuation → Tariff → ℕ × Exchanger → Rational
cold_worth case network values tariff (number, e) =
    utility_worth (shifted_run side.Cold case network values number) tariff side.Cold e.duty e.cold

-- what the streams lose of their worth from their first state to their last, and what the hot utilities give, is worth
-- at least what the cold utilities take
abbrev pub WorthsAreOrdered : Type 0
WorthsAreOrdered =
    (case : Case) (network : Network) (values : Valuation) (tariff : Tariff)
    → HasShape case network → IsWholeValuation case network values → AreEnded case network values
    → KeepApproaches case network values → All (IsPermitted case) (exchangers_of network.lines)
    → AllPairs comes_below tariff.views → IsOrderedTariff case tariff
    → IsAtMost (rational_sum_by (cold_worth case network values tariff) (enumerate_from 0 (exchangers_of network.lines)))
    (plus (rational_sum_by (stream_loss (branch_worth case tariff)) (enumerate_from 0 case.streams))
    (rational_sum_by (hot_worth case network values tariff) (enumerate_from 0 (exchangers_of network.lines))))
