-- What `sweep` shows of a case.
use Rattle.std.specs.Prelude.{◌≡◌, List}
use Rattle.stream_case.specs.declared.case.Case.{Case}
use Rattle.study.specs.Sweep.{AreRows}
use Rattle.study.specs.declared.plan.SweepPlan.{SweepPlan}
use Rattle.study.specs.declared.row.SweepRow.{SweepRow}
use Rattle.reports.specs.declared.shown.Shown.{Shown}
use Rattle.reports.specs.declared.shown.Shown.TheVariants.{Sweep}

-- the rows of a plan for a case, in rising contribution. The workers are not told
pub record ShowsSweep (plan : SweepPlan) (case : Case) (shown : Shown) : Type 0 where
  pub rows : List SweepRow
  pub are : AreRows case plan rows
  pub is : shown ≡ Sweep rows
