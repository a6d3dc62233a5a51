-- The targets and the least cost of a sample.
use Rattle.std.specs.Prelude.{◌≡◌, ℕ}
use Rattle.stream_case.specs.declared.case.Case.{Case}
use Rattle.stream_case.specs.Case.{completed}
use Rattle.problem_table.specs.Deficit.{hot_target, cold_target}
use Rattle.heat_flow.specs.Certificate.{IsLeastCostOf}
use Rattle.study.specs.declared.sample_targets.SampleRow.{SampleRow}
use Rattle.study.specs.Sample.{sample}

-- a sample with the standard utilities
abbrev pub completed_sample : ℕ → ℕ → Case
completed_sample number count = completed (sample number count)

-- its targets, and the least cost of its heat flows
pub record IsSampleRow (number count : ℕ) (row : SampleRow) : Type 0 where
  pub hot : row.hot ≡ hot_target (completed_sample number count).streams
  pub cold : row.cold ≡ cold_target (completed_sample number count).streams
  pub cost : IsLeastCostOf (completed_sample number count) row.cost

-- there is at most one
abbrev pub OneSampleRow : Type 0
OneSampleRow =
    (number count : ℕ) (row other : SampleRow) → IsSampleRow number count row → IsSampleRow number count other
    → row ≡ other
