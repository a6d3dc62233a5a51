-- What the parts of an audit answer for their items.
use Rattle.std.specs.Prelude.{◌≡◌, ℕ, List, Some, None, Result, Ok, Err}
use Rattle.network_audit.specs.Items.{Item, first_finding}
use Rattle.network_audit.specs.declared.findings.Finding.{Finding}
use Rattle.network_audit.specs.declared.findings.Finding.TheVariants as finding
use Rattle.network_audit.specs.declared.findings.Place.{Place}
use Rattle.network_audit.specs.declared.findings.Reason.{Reason}

-- the items are passed and the answer is a right one, or this is their finding
abbrev pub Judged : {X : Type 0} → List Item → (X → Type 0) → Result X Finding → Type 0
Judged items P (Ok x) = (first_finding items ≡ None) × P x
Judged items P (Err found) = first_finding items ≡ Some found

-- the same of steps, at any place: the number of the first that is not passed
abbrev pub Formed : {X : Type 0} → (Place → List Item) → (X → Type 0) → Result X ℕ → Type 0
Formed items P (Ok x) = ((at : Place) → first_finding (items at) ≡ None) × P x
Formed items P (Err step) = (at : Place) → first_finding (items at) ≡ Some (finding.TooFine at step)

-- the same of tests
abbrev pub Tested : {X : Type 0} → (Place → List Item) → (X → Type 0) → Result X Reason → Type 0
Tested items P (Ok x) = ((at : Place) → first_finding (items at) ≡ None) × P x
Tested items P (Err because) = (at : Place) → first_finding (items at) ≡ Some (finding.Failed at because)
