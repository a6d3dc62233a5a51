-- Printed heat flows and cuts, as reports that prove what they say of a case.
use Rattle.std.specs.Prelude.{◌≡◌, ℕ, List}
use Rattle.stream_case.specs.Case.{IsComplete}
use Rattle.stream_case.specs.declared.case.Case.{Case}
use Rattle.grid.specs.Part.{AreCaseParts}
use Rattle.heat_flow.specs.Certificate.{IsCertified, IsCutOf}
use Rattle.heat_flow.specs.Reach.{reach_between}
use Rattle.certify.specs.Answers.{IsAnswer}
use Rattle.certify.specs.Outcome.{IsReportOf}
use Rattle.certify.specs.declared.report.Checked.TheVariants.{Yes}
use Rattle.certify.specs.declared.report.Report.{Report}
use Rattle.reports.specs.Text.{text}
use Rattle.reports.specs.declared.shown.Shown.{Shown}
use Rattle.reports.specs.declared.shown.Shown.TheVariants.{Flow, Stuck}

-- a heat flow between the parts of the case with prices that certify it, or a cut of those parts
abbrev pub IsProofOf : Case → Shown → Type 0
IsProofOf c (Flow case parts flow prices cost) =
    (case ≡ c) × AreCaseParts c parts.hot parts.cold
    × IsCertified (reach_between c parts.hot parts.cold) parts.hot parts.cold flow.transfers prices.hot prices.cold cost
IsProofOf c (Stuck case parts cut) =
    (case ≡ c) × AreCaseParts c parts.hot parts.cold
    × IsCutOf (reach_between c parts.hot parts.cold) parts.hot parts.cold cut
IsProofOf c other = ⊥

-- these bytes are a report, and no check of it fails
pub record IsAnsweredWithYes (c : Case) (bytes : List ℕ) : Type 0 where
  pub report : Report
  pub is : IsReportOf bytes report
  pub answer : IsAnswer c report Yes

-- what is printed of a proof of a completed case is such a report
abbrev pub PrintedProofsPass : Type 0
PrintedProofsPass = (c : Case) (shown : Shown) → IsComplete c → IsProofOf c shown → IsAnsweredWithYes c (text shown)
