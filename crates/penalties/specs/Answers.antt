-- What is answered for steps: a number, a list of penalties, or the first step that is too fine.
use Rattle.std.specs.Prelude.{◌≡◌, List, Option, Some, None, Result, Ok, Err}
use Rattle.stream_case.specs.declared.case.Case.{Case}
use Rattle.fractions.specs.Rationals.{IsAtMost, Rational, rational_sum_by, rational_zero}
use Rattle.networks.specs.declared.network.Network.{Network}
use Rattle.network_values.specs.Heights.{View}
use Rattle.network_values.specs.Penalties.{IsReferenceView}
use Rattle.network_values.specs.Values.{IsWholeValuation, Valuation}
use Rattle.network_audit.specs.Items.{Item, first_finding, too_fine}
use Rattle.penalties.specs.Rows.{penalties_of}
use Rattle.penalties.specs.Steps.{penalty_steps}
use Rattle.penalties.specs.declared.list.Penalty.{Penalty}
use Rattle.penalties.specs.declared.list.PenaltyList.{PenaltyList}
use Rattle.penalties.specs.declared.list.PenaltyList.TheVariants as list
use Rattle.penalties.specs.declared.list.TooFine.{TooFine}

-- all steps are within the limits and the answer is a right one, or this is the first that is not
abbrev pub Formed : {X : Type 0} → List Item → (X → Type 0) → Result X TooFine → Type 0
Formed steps P (Ok x) = (first_finding steps ≡ None) × P x
Formed steps P (Err found) = first_finding steps ≡ Some (too_fine found.place found.step)

-- the same where what is found is no error
abbrev pub Finds : List Item → Type 0 → Option TooFine → Type 0
Finds steps P None = (first_finding steps ≡ None) × P
Finds steps P (Some found) = first_finding steps ≡ Some (too_fine found.place found.step)

abbrev pub Lists : List Item → List Penalty → PenaltyList → Type 0
Lists steps penalties (list.Listed listed) = (first_finding steps ≡ None) × (listed ≡ penalties)
Lists steps penalties (list.TooFine place step) = first_finding steps ≡ Some (too_fine place step)

-- the penalties of the network's valuation in the view from the reference place, where all steps that form them are
-- within the limits of a fraction, and else the first step that is not
pub record ListsPenalties (case : Case) (network : Network) (answer : PenaltyList) : Type 0 where
  pub view : View
  pub values : Valuation
  pub is_reference : IsReferenceView case.streams view
  pub valuation : IsWholeValuation case network values
  pub lists : Lists (penalty_steps case view network values) (penalties_of case view network values) answer

-- what holds of penalties that are listed
abbrev pub IfListed : PenaltyList → (List Penalty → Type 0) → Type 0
IfListed (list.Listed listed) P = P listed
IfListed (list.TooFine place step) P = Unit {0}

abbrev pub sum_of : List Penalty → Rational
sum_of penalties = rational_sum_by (λ p. p.value) penalties

abbrev pub IsNotNegative : Penalty → Type 0
IsNotNegative p = IsAtMost rational_zero p.value
