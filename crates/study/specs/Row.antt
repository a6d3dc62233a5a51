-- A row of a sweep.
use Rattle.std.specs.Prelude.{◌≡◌, ℤ, map}
use Rattle.stream_case.specs.Stream.{stream_with}
use Rattle.stream_case.specs.declared.utility.Utility.{Utility}
use Rattle.stream_case.specs.declared.case.Case.{Case}
use Rattle.stream_case.specs.Case.{completed}
use Rattle.problem_table.specs.Deficit.{hot_target, cold_target}
use Rattle.study.specs.declared.row.SweepRow.{SweepRow}
use Rattle.study.specs.Cost.{IsCostOf}

-- the utility with this contribution
abbrev pub utility_with : ℤ → Utility → Utility
utility_with contribution u = record u { contribution = contribution }

-- the case with this contribution in all its sources
abbrev pub with_contribution : ℤ → Case → Case
with_contribution contribution c = record {
  contribution = contribution;
  streams = map (stream_with contribution) c.streams;
  utilities = map (utility_with contribution) c.utilities;
  forbids = c.forbids;
}

-- the same completed, with the standard utilities where they are wanted
abbrev pub case_with : ℤ → Case → Case
case_with contribution c = completed (with_contribution contribution c)

-- the row of this contribution
pub record IsRow (c : Case) (contribution : ℤ) (row : SweepRow) : Type 0 where
  pub contribution_is : row.contribution ≡ contribution
  pub hot : row.hot ≡ hot_target (case_with contribution c).streams
  pub cold : row.cold ≡ cold_target (case_with contribution c).streams
  pub cost : IsCostOf (case_with contribution c) row.cost

-- there is at most one
abbrev pub OneRow : Case → Type 0
OneRow c =
    (contribution : ℤ) (row other : SweepRow) → IsRow c contribution row → IsRow c contribution other → row ≡ other
