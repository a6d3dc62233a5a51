-- The items of utilities and of the balance, and all items of an audit in their order.
use Rattle.std.specs.Prelude.{ℕ, ◌+◌, ◌==◌, List, [], ◌∷◌, ◌++◌, length, map, Option, Some, None, if◌then◌else◌}
use Rattle.std.specs.List.{enumerate_from, filter_map, flat_map}
use Rattle.stream_case.specs.Source.{same_side}
use Rattle.stream_case.specs.declared.case.Case.{Case}
use Rattle.stream_case.specs.declared.source.Side.{Side}
use Rattle.stream_case.specs.declared.source.Side.TheVariants as side
use Rattle.stream_case.specs.declared.utility.Utility.{Utility}
use Rattle.fractions.specs.Rationals.{Rational, plus, rational_zero, whole}
use Rattle.networks.specs.declared.network.Network.{Network}
use Rattle.network_values.specs.Values.{Valuation}
use Rattle.network_audit.specs.Balance.{duties_with, excess_of, heat_price, heat_with}
use Rattle.network_audit.specs.Items.{Item, Step, Test, exchanger_items, is_reached, items_before, stream_items}
use Rattle.network_audit.specs.declared.findings.Place.{Place}
use Rattle.network_audit.specs.declared.findings.Place.TheVariants as place
use Rattle.network_audit.specs.declared.findings.Reason.TheVariants as reason

-- ---- utilities

-- numbers are added to a total, one after the other; the steps are the sums, and so many steps stand before them
abbrev pub sum_steps : Place → ℕ → Rational → List Rational → List Item
sum_steps at before total [] = []
sum_steps at before total (a ∷ numbers) =
    Step at (before + 1) (plus total a) ∷ sum_steps at (before + 1) (plus total a) numbers

-- the heat of a utility lies in its range
abbrev pub range_items : Place → Utility → Rational → List Item
range_items at u heat =
    Test at (is_reached heat (whole u.least)) (reason.UtilityRange heat (whole u.least))
    ∷ Test at (is_reached (whole u.most) heat) (reason.UtilityRange heat (whole u.most))
    ∷ []

abbrev pub utility_items_at : Network → ℕ × Utility → List Item
utility_items_at network (index, u) =
    sum_steps (place.Utility index) 0 rational_zero (duties_with network index)
    ++ range_items (place.Utility index) u (heat_with network index)

unfoldable pub utility_items : Case → Network → List Item
utility_items case network = flat_map (utility_items_at network) (enumerate_from 0 case.utilities)

-- ---- the balance

-- the heat of a utility that is on the side
abbrev pub heat_on : Side → Network → ℕ × Utility → Option Rational
heat_on side network (index, u) = if same_side u.side side then Some (heat_with network index) else None

-- the heats of the utilities on a side, in order
unfoldable pub heats_on : Side → Case → Network → List Rational
heats_on side case network = filter_map (heat_on side network) (enumerate_from 0 case.utilities)

-- each price is formed, and added to the cost
abbrev pub cost_steps : Place → ℕ → Rational → List Rational → List Item
cost_steps at before cost [] = []
cost_steps at before cost (price ∷ prices) =
    Step at (before + 1) price ∷ Step at (before + 2) (plus cost price) ∷ cost_steps at (before + 2) (plus cost price) prices

-- the heats of the hot utilities are added, then those of the cold ones; then come the excess and the cost
unfoldable pub balance_items : Case → Network → List Item
balance_items case network =
    let hot = heats_on side.Hot case network in
    let cold = heats_on side.Cold case network in
    sum_steps place.Balance 0 rational_zero hot
    ++ (sum_steps place.Balance (length hot) rational_zero cold
    ++ Step place.Balance (length hot + length cold + 1) (excess_of case network)
    ∷ cost_steps place.Balance (length hot + length cold + 1) rational_zero (map (heat_price network) (enumerate_from 0 case.utilities)))

-- ---- all items

-- what follows the statements: streams, exchangers, utilities, and the balance
unfoldable pub items_behind : Case → Network → Valuation → List Item
items_behind case network values =
    stream_items case network
    ++ (exchanger_items case network values ++ (utility_items case network ++ balance_items case network))

-- the items that a valuation of the first n statements defines: those of these statements and the next one, and
-- behind the last statement all
unfoldable pub items : Case → Network → Valuation → ℕ → List Item
items case network values n =
    items_before case network values (n + 1)
    ++ (if n == length network.lines then items_behind case network values else [])
