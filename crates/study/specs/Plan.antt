-- The contributions of a sweep.
use Rattle.std.specs.Prelude.{ℕ, ℤ, pos, ◌+ℤ◌, ◌*ℤ◌, ◌≤ℤ◌, ◌<ℤ◌}
use Rattle.stream_case.specs.declared.limits.TheConstants.{MOST_CONTRIBUTION}
use Rattle.stream_case.specs.Limits.{IsBetween}
use Rattle.study.specs.declared.limits.TheConstants.{LONGEST_STEP, MOST_ROWS}
use Rattle.study.specs.declared.plan.SweepPlan.{SweepPlan}

-- the contribution of row number k, counted from 0
abbrev pub contribution_at : SweepPlan → ℕ → ℤ
contribution_at p k = p.from +ℤ pos k *ℤ p.step

-- there is such a row
abbrev pub has_row : SweepPlan → ℕ → Type 0
has_row p k = contribution_at p k ≤ℤ p.to

-- contributions from `from` to `to`, and not too many of them
pub record IsSweepPlan (p : SweepPlan) : Type 0 where
  pub from : pos 0 ≤ℤ p.from
  pub order : p.from ≤ℤ p.to
  pub upto : p.to ≤ℤ MOST_CONTRIBUTION
  pub step : IsBetween (pos 1) LONGEST_STEP p.step
  pub few : p.to <ℤ contribution_at p MOST_ROWS
