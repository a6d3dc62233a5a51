-- What a survey sees of an audited network.
use Rattle.std.specs.Prelude.{ℕ, List, [], unwrap_or}
use Rattle.fractions.specs.Rationals.{Rational}
use Rattle.network_values.specs.Heights.{View}
use Rattle.network_values.specs.Penalties.{height_at}
use Rattle.network_values.specs.Values.{Valuation}
use Rattle.network_audit.specs.Audit.{Audit}
use Rattle.network_audit.specs.Items.{Item}
use Rattle.network_audit.specs.declared.findings.Place.{Place}
use Rattle.penalties.specs.Steps.{branch_steps}
use Rattle.penalties.specs.declared.heights.Survey.{Survey}

-- the valuation that an audit kept; none, of which no rule speaks, where it kept none
abbrev pub values_of : Audit → Valuation
values_of audit = unwrap_or audit.values []

-- the view from its reference place
abbrev pub view_of : Survey → View
view_of s = record { place = s.reference.place; from_itself = s.reference.from_itself }

-- the height of the branch with a number, and the steps that form it
abbrev pub seen_height : Survey → ℕ → Rational
seen_height s branch = height_at s.case.now (view_of s) s.network.now (values_of s.auditor.now) branch

abbrev pub seen_steps : Survey → Place → ℕ → ℕ → List Item
seen_steps s at k branch = branch_steps s.case.now (view_of s) s.network.now (values_of s.auditor.now) at k branch
