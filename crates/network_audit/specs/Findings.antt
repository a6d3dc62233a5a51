-- The finding of an audit, and the verdict.
use Rattle.std.specs.Prelude.{◌≡◌, ℕ, length, Some, None}
use Rattle.stream_case.specs.declared.case.Case.{Case}
use Rattle.networks.specs.declared.network.Network.{Network}
use Rattle.network_values.specs.Values.{IsValuation, IsWholeValuation, Valuation}
use Rattle.network_audit.specs.AllItems.{items}
use Rattle.network_audit.specs.Balance.{balance_of}
use Rattle.network_audit.specs.Items.{first_finding}
use Rattle.network_audit.specs.declared.findings.Finding.{Finding}
use Rattle.network_audit.specs.declared.findings.Finding.TheVariants as finding
use Rattle.network_audit.specs.declared.verdict.Verdict.{Verdict}
use Rattle.network_audit.specs.declared.verdict.Verdict.TheVariants as verdict

-- the first item that is not passed, of those that some valuation of the first statements defines
pub record IsFinding (case : Case) (network : Network) (found : Finding) : Type 0 where
  pub n : ℕ
  pub values : Valuation
  pub valuation : IsValuation case network n values
  pub first : first_finding (items case network values n) ≡ Some found

-- all items are defined and passed
pub record HasNoFinding (case : Case) (network : Network) : Type 0 where
  pub values : Valuation
  pub valuation : IsWholeValuation case network values
  pub none : first_finding (items case network values (length network.lines)) ≡ None

-- the verdict tells the finding, or the balance where there is none
abbrev pub IsVerdict : Case → Network → Verdict → Type 0
IsVerdict case network (verdict.Accepted balance) = HasNoFinding case network × (balance ≡ balance_of case network)
IsVerdict case network (verdict.Rejected place reason) = IsFinding case network (finding.Failed place reason)
IsVerdict case network (verdict.TooFine place step) = IsFinding case network (finding.TooFine place step)
