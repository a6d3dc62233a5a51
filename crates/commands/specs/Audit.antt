-- What `audit` shows of a network.
use Rattle.std.specs.Prelude.{◌≡◌, ℤ, All}
use Rattle.stream_case.specs.declared.case.Case.{Case}
use Rattle.fractions.specs.Rationals.{IsAtMost, rational_zero, whole}
use Rattle.heat_flow.specs.Certificate.{IsLeastCostOf}
use Rattle.problem_table.specs.Deficit.{IsReferencePlace}
use Rattle.networks.specs.declared.network.Network.{Network}
use Rattle.network_audit.specs.Audit.{IfAccepted, SaysExactly}
use Rattle.network_audit.specs.Findings.{IsVerdict}
use Rattle.network_audit.specs.Valid.{IsValidNetwork}
use Rattle.network_audit.specs.declared.verdict.Balance.{Balance}
use Rattle.network_audit.specs.declared.verdict.Verdict.{Verdict}
use Rattle.network_audit.specs.declared.verdict.Verdict.TheVariants as verdict
use Rattle.penalties.specs.Answers.{IfListed, IsNotNegative, ListsPenalties, sum_of}
use Rattle.penalties.specs.declared.list.PenaltyList.{PenaltyList}
use Rattle.reports.specs.declared.shown.Shown.{Shown}
use Rattle.reports.specs.declared.shown.Shown.TheVariants.{Accepted, Rejected, TooFine}

-- a network that is accepted is shown with its balance, the floor, the reference place of its case, and its penalties. The case has a heat flow, and
-- the floor is the least cost of one: the network costs no less. The penalties, unless they are too fine, are not negative, and together they are the
-- excess of the balance
pub record IsAccepted (case : Case) (network : Network) (balance : Balance) (shown : Shown) : Type 0 where
  pub reference : ℤ
  pub is_reference : IsReferencePlace case.streams reference
  pub floor : ℤ
  pub is_floor : IsLeastCostOf case floor
  pub costs_no_less : IsAtMost (whole floor) balance.cost
  pub penalties : PenaltyList
  pub lists : ListsPenalties case network penalties
  pub not_negative : IfListed penalties (All IsNotNegative)
  pub sum : IfListed penalties (λ listed. sum_of listed ≡ balance.excess)
  pub is : shown ≡ Accepted case network balance reference floor penalties

-- how a verdict on a network is shown
abbrev pub ShowsVerdict : Case → Network → Verdict → Shown → Type 0
ShowsVerdict case network (verdict.Accepted balance) shown = IsAccepted case network balance shown
ShowsVerdict case network (verdict.Rejected place reason) shown = shown ≡ Rejected case network place reason
ShowsVerdict case network (verdict.TooFine place step) shown = shown ≡ TooFine case network place step

-- the verdict on a network of a completed case: its finding, or its balance where it has none. It is too fine, or the network is accepted exactly
-- where it is valid; and one that is accepted needs no less hot utility than the hot target
pub record IsAuditOf (case : Case) (network : Network) (shown : Shown) : Type 0 where
  pub verdict : Verdict
  pub is_verdict : IsVerdict case network verdict
  pub valid : SaysExactly verdict (IsValidNetwork case network)
  pub excess : IfAccepted verdict (λ balance. IsAtMost rational_zero balance.excess)
  pub shows : ShowsVerdict case network verdict shown
