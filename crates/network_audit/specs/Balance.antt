-- The balance of a network: the heats of its utilities, its excess and its cost.
use Rattle.std.specs.Prelude.{ℕ, ◌||◌, List, Option, Some, None, if◌then◌else◌}
use Rattle.std.specs.List.{enumerate_from, filter_map}
use Rattle.stream_case.specs.Source.{same_source}
use Rattle.stream_case.specs.declared.case.Case.{Case}
use Rattle.stream_case.specs.declared.source.Source.TheVariants as source
use Rattle.stream_case.specs.declared.utility.Utility.{Utility}
use Rattle.problem_table.specs.Deficit.{hot_target}
use Rattle.fractions.specs.Rationals.{Rational, minus, rational_sum, rational_sum_by, times, whole}
use Rattle.networks.specs.Lines.{Exchanger, exchangers_of}
use Rattle.networks.specs.declared.network.Network.{Network}
use Rattle.network_values.specs.Penalties.{hot_heat, utility_part}
use Rattle.network_audit.specs.declared.verdict.Balance.{Balance}

-- ---- the heat of a utility

-- the duty of an exchanger that has the utility
abbrev pub duty_with : ℕ → Exchanger → Option Rational
duty_with index e =
    if same_source e.hot (source.Utility index) || same_source e.cold (source.Utility index) then Some e.duty else None

-- the duties of a utility's exchangers in order, and its heat, their sum
unfoldable pub duties_with : Network → ℕ → List Rational
duties_with network index = filter_map (duty_with index) (exchangers_of network.lines)

abbrev pub heat_with : Network → ℕ → Rational
heat_with network index = rational_sum (duties_with network index)

-- ---- the balance

-- the sum of the duties of the exchangers with a cold utility, as hot_heat is that of those with a hot one
abbrev pub cold_heat : Network → Rational
cold_heat network = rational_sum_by (λ e. utility_part e.duty e.cold) (exchangers_of network.lines)

-- the hot heat less the hot target
abbrev pub excess_of : Case → Network → Rational
excess_of case network = minus (hot_heat network) (whole (hot_target case.streams))

-- each utility's price times its heat, added up
abbrev pub heat_price : Network → ℕ × Utility → Rational
heat_price network (index, u) = times (whole u.price) (heat_with network index)

unfoldable pub cost_of : Case → Network → Rational
cost_of case network = rational_sum_by (heat_price network) (enumerate_from 0 case.utilities)

abbrev pub balance_of : Case → Network → Balance
balance_of case network = record {
  hot = hot_heat network;
  cold = cold_heat network;
  excess = excess_of case network;
  cost = cost_of case network;
}
