-- What an auditor knows, and what an audit leaves behind.
use Rattle.std.specs.Prelude.{◌≡◌, ◌⊎◌, ◌↔◌, IfSome, List, length, Option, Some, None}
use Rattle.stream_case.specs.Case.{IsComplete}
use Rattle.stream_case.specs.declared.case.Case.{Case}
use Rattle.fractions.specs.Rationals.{Rational}
use Rattle.networks.specs.Shape.{HasShape}
use Rattle.networks.specs.declared.network.Network.{Network}
use Rattle.network_values.specs.Values.{IsWholeValuation, Valuation}
use Rattle.network_audit.specs.AllItems.{items}
use Rattle.network_audit.specs.Balance.{balance_of}
use Rattle.network_audit.specs.Items.{first_finding}
use Rattle.network_audit.specs.Joints.{joints_of}
use Rattle.network_audit.specs.declared.joints.Joint.{Joint}
use Rattle.network_audit.specs.declared.verdict.Balance.{Balance}
use Rattle.network_audit.specs.declared.verdict.Verdict.{Verdict}
use Rattle.network_audit.specs.declared.verdict.Verdict.TheVariants as verdict

-- a case and a network, and after an audit that accepted the network what its branches carry
pub record Audit : Type 0 where
  pub case : Case
  pub network : Network
  pub values : Option Valuation

-- the network is accepted, with a balance
abbrev pub IfAccepted : Verdict → (Balance → Type 0) → Type 0
IfAccepted (verdict.Accepted balance) P = P balance
IfAccepted (verdict.Rejected place reason) P = Unit {0}
IfAccepted (verdict.TooFine place step) P = Unit {0}

-- the values are a whole valuation of the network, and the audit finds nothing
pub record IsFaultless (case : Case) (network : Network) (values : Valuation) : Type 0 where
  pub valuation : IsWholeValuation case network values
  pub none : first_finding (items case network values (length network.lines)) ≡ None

-- after an audit the valuation is kept where it accepted the network, and else none
abbrev pub Leaves : Audit → Verdict → Audit → Type 0
Leaves old (verdict.Accepted balance) new =
    (values : Valuation) × IsFaultless old.case old.network values × (new ≡ record old { values = Some values })
Leaves old (verdict.Rejected place reason) new = new ≡ record old { values = None }
Leaves old (verdict.TooFine place step) new = new ≡ record old { values = None }

-- the auditor is of this case and this network, and its last audit accepted the network
pub record HasAccepted (audit : Audit) (case : Case) (network : Network) : Type 0 where
  pub values : Valuation
  pub is : audit ≡ record { case = case; network = network; values = Some values }

-- what an auditor knows at any time: what it keeps is a whole valuation without a finding
pub record KnowsItsNetwork (audit : Audit) : Type 0 where
  pub complete : IsComplete audit.case
  pub shape : HasShape audit.case audit.network
  pub kept : IfSome audit.values (IsFaultless audit.case audit.network)

-- ---- what a verdict says

abbrev pub IsTooFine : Verdict → Type 0
IsTooFine (verdict.Accepted balance) = ⊥
IsTooFine (verdict.Rejected place reason) = ⊥
IsTooFine (verdict.TooFine place step) = Unit {0}

abbrev pub IsAccepted : Verdict → Type 0
IsAccepted (verdict.Accepted balance) = Unit {0}
IsAccepted (verdict.Rejected place reason) = ⊥
IsAccepted (verdict.TooFine place step) = ⊥

-- the verdict is too fine, or the network is accepted exactly where it is so
abbrev pub SaysExactly : Verdict → Type 0 → Type 0
SaysExactly verdict P = IsTooFine verdict ⊎ (IsAccepted verdict ↔ P)

-- ---- what an auditor has inside

-- the network has this valuation, no finding, and this balance
pub record Accepts (case : Case) (network : Network) (values : Valuation) (balance : Balance) : Type 0 where
  pub faultless : IsFaultless case network values
  pub sums : balance ≡ balance_of case network

-- its case and network, and the room that it has: the exchangers with their passes, a value for each branch and a heat
-- for each utility
pub record IsReady (case : Case) (network : Network) (joints : List Joint) (values : Valuation)
    (heats : List Rational) : Type 0 where
  pub complete : IsComplete case
  pub shape : HasShape case network
  pub table : joints ≡ joints_of network
  pub value_each : length values ≡ length network.branches
  pub heat_each : length heats ≡ length case.utilities
