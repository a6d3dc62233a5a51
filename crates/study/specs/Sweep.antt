-- The rows of a sweep.
use Rattle.std.specs.Prelude.{◌≡◌, ◌↔◌, ℕ, ◌<◌, List, length, Some, slice_get}
use Rattle.stream_case.specs.declared.case.Case.{Case}
use Rattle.study.specs.declared.plan.SweepPlan.{SweepPlan}
use Rattle.study.specs.declared.row.SweepRow.{SweepRow}
use Rattle.study.specs.Plan.{contribution_at, has_row}
use Rattle.study.specs.Row.{IsRow}

-- row number k of a sweep
abbrev pub IsRowAt : Case → SweepPlan → ℕ → SweepRow → Type 0
IsRowAt c p k row = IsRow c (contribution_at p k) row

-- the rows of the contributions, as many as there are
pub record AreRows (c : Case) (p : SweepPlan) (rows : List SweepRow) : Type 0 where
  pub each : (k : ℕ) (row : SweepRow) → slice_get rows k ≡ Some row → IsRowAt c p k row
  pub as_many : (k : ℕ) → (k < length rows) ↔ has_row p k

-- there is at most one list of them
abbrev pub OneSweep : Case → Type 0
OneSweep c = (p : SweepPlan) (rows others : List SweepRow) → AreRows c p rows → AreRows c p others → rows ≡ others
