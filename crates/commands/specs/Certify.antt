-- What `certify` shows of a report.
use Rattle.std.specs.Prelude.{◌≡◌, ℤ, Option, Some, None}
use Rattle.stream_case.specs.declared.case.Case.{Case}
use Rattle.certify.specs.Answers.{IsAnswer, Proves}
use Rattle.certify.specs.declared.report.Checked.{Checked}
use Rattle.certify.specs.declared.report.Checked.TheVariants.{Yes, No}
use Rattle.certify.specs.declared.report.Report.{Report}
use Rattle.certify.specs.declared.report.Report.TheVariants as report
use Rattle.reports.specs.declared.shown.Shown.{Shown}
use Rattle.reports.specs.declared.shown.Shown.TheVariants.{Certified, NotCertified}

-- the cost that a report of a heat flow gives; a report of a cut gives none
abbrev pub cost_in : Report → Option ℤ
cost_in (report.Flow cost uses moves gives takes) = Some cost
cost_in (report.Cut kind need offer parts) = None

-- how the answer to a report is shown
abbrev pub shown_check : Report → Checked → Shown
shown_check r Yes = Certified (cost_in r)
shown_check r (No why) = NotCertified why

-- the answer to a report of a completed case: yes exactly where no check of it fails, and else no with the first that does. After yes the cost is the
-- least one, or there is no heat flow
pub record IsCheckOf (case : Case) (report : Report) (shown : Shown) : Type 0 where
  pub checked : Checked
  pub is_answer : IsAnswer case report checked
  pub proves : Proves case report checked
  pub is : shown ≡ shown_check report checked
