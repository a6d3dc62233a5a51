-- What a file is to a command, for the files of each role.
use Rattle.std.specs.Prelude.{ℕ, List, Result}
use Rattle.rows.specs.Rows.{rows_of}
use Rattle.statements.specs.Statements.{statements_of}
use Rattle.first_fault.specs.Outcome.{IsOutcome}
use Rattle.stream_case.specs.declared.case.Case.{Case}
use Rattle.case_text.specs.Outcome as case_text
use Rattle.case_text.specs.declared.fault.CaseWhy.{CaseWhy}
use Rattle.network_text.specs.Outcome as network_text
use Rattle.network_text.specs.declared.fault.NetWhy.{NetWhy}
use Rattle.networks.specs.declared.network.Network.{Network}
use Rattle.certify.specs.Outcome as report_text
use Rattle.certify.specs.declared.fault.ReportWhy.{ReportWhy}
use Rattle.certify.specs.declared.report.Report.{Report}
use Rattle.site_text.specs.Outcome as site_text
use Rattle.site_text.specs.declared.fault.SiteWhy.{SiteWhy}
use Rattle.site_text.specs.declared.site.Site.{Site}
use Rattle.study_text.specs.Outcome as study_text
use Rattle.study_text.specs.declared.fault.StudyWhy.{StudyWhy}
use Rattle.study_text.specs.declared.study.Study.{Study}
use Rattle.reports.specs.declared.shown.FileRole.{FileRole}
use Rattle.reports.specs.declared.shown.FileRole.TheVariants as roles
use Rattle.reports.specs.declared.shown.Shown.{Shown}
use Rattle.reports.specs.declared.shown.Shown.TheVariants.{BadCase, BadNetwork, BadReport, BadSite, BadStudy}

-- the files of a role: what their texts say, or where and why they are refused
pub record Format (Value Cause : Type 0) : Type 1 where
  pub role : FileRole
  -- the bytes have this outcome: a value, or the row or statement at fault, counted from 1, and the cause
  pub Gives : List ℕ → Result Value (ℕ × Cause) → Type 0
  -- what is shown of a fault
  pub bad : ℕ → Cause → Shown

-- case files
abbrev pub case_file : Format Case CaseWhy
case_file = record { role = roles.Case; Gives = λ bytes. IsOutcome case_text.grammar (rows_of bytes); bad = BadCase }

-- network files, for a completed case
abbrev pub network_file : Case → Format Network NetWhy
network_file case =
    record {
      role = roles.Network;
      Gives = λ bytes. IsOutcome (network_text.grammar case) (statements_of bytes);
      bad = BadNetwork;
    }

-- reports
abbrev pub report_file : Format Report ReportWhy
report_file =
    record {
      role = roles.Report;
      Gives = λ bytes. IsOutcome report_text.grammar (statements_of bytes);
      bad = BadReport;
    }

-- site files
abbrev pub site_file : Format Site SiteWhy
site_file = record { role = roles.Site; Gives = λ bytes. IsOutcome site_text.grammar (rows_of bytes); bad = BadSite }

-- study files, for a completed case
abbrev pub study_file : Case → Format Study StudyWhy
study_file case =
    record { role = roles.Study; Gives = λ bytes. IsOutcome (study_text.grammar case) (rows_of bytes); bad = BadStudy }
