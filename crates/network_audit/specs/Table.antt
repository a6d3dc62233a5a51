-- What the audit reads of its tables: the exchangers with their passes, and the heats of the utilities.
use Rattle.std.specs.Prelude.{ℕ, ◌+◌, ℤ, Bool, ◌||◌, List, ◌∷◌, ◌++◌, length, map, Option, Some, None, slice_index_or, if◌then◌else◌}
use Rattle.std.specs.List.{enumerate_from, filter_map, flat_map}
use Rattle.stream_case.specs.Source.{same_side, same_source}
use Rattle.stream_case.specs.declared.case.Case.{Case}
use Rattle.stream_case.specs.declared.source.Side.{Side}
use Rattle.stream_case.specs.declared.source.Side.TheVariants as side
use Rattle.stream_case.specs.declared.source.Source.{Source}
use Rattle.stream_case.specs.declared.source.Source.TheVariants as source
use Rattle.stream_case.specs.declared.utility.Utility.{Utility}
use Rattle.fractions.specs.Rationals.{Rational, minus, rational_sum, rational_zero, times, whole}
use Rattle.network_values.specs.Sides.{fixed_level}
use Rattle.network_values.specs.Values.{Valuation, value_at}
use Rattle.network_audit.specs.AllItems.{cost_steps, range_items, sum_steps}
use Rattle.network_audit.specs.Items.{Item, Step, side_items}
use Rattle.network_audit.specs.declared.exchangers.Ends.{Ends}
use Rattle.network_audit.specs.declared.findings.Place.{Place}
use Rattle.network_audit.specs.declared.findings.Place.TheVariants as place
use Rattle.network_audit.specs.declared.joints.Crossing.{Crossing}
use Rattle.network_audit.specs.declared.joints.Joint.{Joint}
use Rattle.network_audit.specs.declared.verdict.Balance.{Balance}

-- ---- exchangers

-- where a side enters an exchanger and leaves it, by its pass; 0, of which no rule speaks, where it has none
abbrev pub passed_ends : Valuation → Option Crossing → Ends
passed_ends values None = record { enters = rational_zero; leaves = rational_zero }
passed_ends values (Some crossing) = record {
  enters = (value_at values crossing.from).t;
  leaves = (value_at values crossing.to).t;
}

abbrev pub level_ends : Ends → Option ℤ → Ends
level_ends ends None = ends
level_ends ends (Some level) = record { enters = whole level; leaves = whole level }

-- a source has its level, or else the temperatures of its branch before and behind the pass
abbrev pub ends_at : Case → Valuation → Source → Option Crossing → Ends
ends_at case values s pass = level_ends (passed_ends values pass) (fixed_level case s)

abbrev pub joint_items_at : Case → Valuation → ℕ × Joint → List Item
joint_items_at case values (number, joint) =
    side_items case (place.Exchanger number) joint.hot joint.cold (ends_at case values joint.hot joint.given) (ends_at case values joint.cold joint.taken)

unfoldable pub joint_items : Case → Valuation → List Joint → List Item
joint_items case values joints = flat_map (joint_items_at case values) (enumerate_from 0 joints)

-- ---- utilities

-- an exchanger has the utility
abbrev pub needs : ℕ → Joint → Bool
needs index joint = same_source joint.hot (source.Utility index) || same_source joint.cold (source.Utility index)

abbrev pub joint_duty : ℕ → Joint → Option Rational
joint_duty index joint = if needs index joint then Some joint.duty else None

unfoldable pub duties_in : List Joint → ℕ → List Rational
duties_in joints index = filter_map (joint_duty index) joints

abbrev pub heat_items : List Joint → ℕ × Utility → List Item
heat_items joints (index, u) =
    sum_steps (place.Utility index) 0 rational_zero (duties_in joints index)
    ++ range_items (place.Utility index) u (rational_sum (duties_in joints index))

unfoldable pub all_heat_items : List Joint → List Utility → List Item
all_heat_items joints utilities = flat_map (heat_items joints) (enumerate_from 0 utilities)

-- the heats of the utilities in order
unfoldable pub heats_in : List Joint → List Utility → List Rational
heats_in joints utilities = map (λ (index, u). rational_sum (duties_in joints index)) (enumerate_from 0 utilities)

-- ---- the balance

abbrev pub heat_at : List Rational → ℕ → Rational
heat_at heats index = slice_index_or heats index rational_zero

abbrev pub heat_on_in : Side → List Rational → ℕ × Utility → Option Rational
heat_on_in side heats (index, u) = if same_side u.side side then Some (heat_at heats index) else None

unfoldable pub heats_on_in : Side → List Utility → List Rational → List Rational
heats_on_in side utilities heats = filter_map (heat_on_in side heats) (enumerate_from 0 utilities)

abbrev pub price_in : List Rational → ℕ × Utility → Rational
price_in heats (index, u) = times (whole u.price) (heat_at heats index)

unfoldable pub prices_in : List Utility → List Rational → List Rational
prices_in utilities heats = map (price_in heats) (enumerate_from 0 utilities)

-- the balance for a hot target, and its steps
abbrev pub balance_in : Rational → List Utility → List Rational → Balance
balance_in target utilities heats = record {
  hot = rational_sum (heats_on_in side.Hot utilities heats);
  cold = rational_sum (heats_on_in side.Cold utilities heats);
  excess = minus (rational_sum (heats_on_in side.Hot utilities heats)) target;
  cost = rational_sum (prices_in utilities heats);
}

abbrev pub balance_steps_in : Place → Rational → List Utility → List Rational → List Item
balance_steps_in at target utilities heats =
    let hot = heats_on_in side.Hot utilities heats in
    let cold = heats_on_in side.Cold utilities heats in
    sum_steps at 0 rational_zero hot
    ++ (sum_steps at (length hot) rational_zero cold
    ++ Step at (length hot + length cold + 1) (minus (rational_sum hot) target)
    ∷ cost_steps at (length hot + length cold + 1) rational_zero (prices_in utilities heats))
