-- What `sample` shows.
use Rattle.std.specs.Prelude.{◌≡◌, ℕ, ℤ}
use Rattle.problem_table.specs.Deficit.{hot_target, cold_target}
use Rattle.heat_flow.specs.Certificate.{IsLeastCostOf}
use Rattle.study.specs.SampleRow.{completed_sample}
use Rattle.reports.specs.declared.shown.Shown.{Shown}
use Rattle.reports.specs.declared.shown.Shown.TheVariants.{Sample}

-- the targets of the completed sample of a number with so many streams on each side, and its least cost
pub record ShowsSample (number count : ℕ) (shown : Shown) : Type 0 where
  pub cost : ℤ
  pub least : IsLeastCostOf (completed_sample number count) cost
  pub is : shown ≡ Sample (hot_target (completed_sample number count).streams) (cold_target (completed_sample number count).streams) cost
