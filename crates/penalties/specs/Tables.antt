-- Penalties as they are read from the table of the exchangers.
use Rattle.std.specs.Prelude.{ℕ, List, [], ◌∷◌, ◌++◌, map, Option, Some, None}
use Rattle.std.specs.List.{enumerate_from, flat_map}
use Rattle.stream_case.specs.declared.source.Source.{Source}
use Rattle.stream_case.specs.declared.source.Source.TheVariants as source
use Rattle.fractions.specs.Rationals.{Rational, minus, rational_zero}
use Rattle.network_audit.specs.Items.{Item, Step}
use Rattle.network_audit.specs.declared.findings.Place.{Place}
use Rattle.network_audit.specs.declared.findings.Place.TheVariants as place
use Rattle.network_audit.specs.declared.joints.Crossing.{Crossing}
use Rattle.network_audit.specs.declared.joints.Joint.{Joint}
use Rattle.penalties.specs.Steps.{absorbed_steps, released_steps}
use Rattle.penalties.specs.declared.list.Penalty.{Penalty}

abbrev pub released_by : (ℕ → Rational) → Rational → Source → Option Crossing → Rational
released_by height duty (source.Stream i) (Some crossing) = minus (height crossing.from) (height crossing.to)
released_by height duty (source.Stream i) None = rational_zero
released_by height duty (source.Utility i) pass = duty

abbrev pub absorbed_by : (ℕ → Rational) → Source → Option Crossing → Rational
absorbed_by height (source.Stream i) (Some crossing) = minus (height crossing.to) (height crossing.from)
absorbed_by height (source.Stream i) None = rational_zero
absorbed_by height (source.Utility i) pass = rational_zero

abbrev pub joint_penalty : (ℕ → Rational) → Joint → Rational
joint_penalty height joint =
    minus (released_by height joint.duty joint.hot joint.given) (absorbed_by height joint.cold joint.taken)

abbrev pub joint_steps : (ℕ → Rational) → (Place → ℕ → ℕ → List Item) → ℕ × Joint → List Item
joint_steps height steps (number, joint) =
    released_steps height steps (place.Exchanger number) joint.hot joint.given
    ++ (absorbed_steps height steps (place.Exchanger number) joint.cold joint.taken ++ Step (place.Exchanger number) 11 (joint_penalty height joint) ∷ [])

unfoldable pub all_joint_steps : (ℕ → Rational) → (Place → ℕ → ℕ → List Item) → List Joint → List Item
all_joint_steps height steps joints = flat_map (joint_steps height steps) (enumerate_from 0 joints)

abbrev pub joint_row : (ℕ → Rational) → ℕ × Joint → Penalty
joint_row height (number, joint) = record { place = place.Exchanger number; value = joint_penalty height joint }

unfoldable pub joint_rows : (ℕ → Rational) → List Joint → List Penalty
joint_rows height joints = map (joint_row height) (enumerate_from 0 joints)
