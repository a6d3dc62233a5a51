-- The states between which the passes of a drawn network run: a share passes its exchanger between those of its stage.
use Rattle.design_lines.proofs.CourseValues.{HaveOwn, made_courses}
use Rattle.design_lines.proofs.CourseValues.{EachRuns}
use Rattle.design_lines.proofs.Words.{BranchValue, Case, Network, Rational, Side, Valuation, courses_lines, enters, leaves, run_between}
use Rattle.design_lines.specs.LedStages.{LedStage}
use Rattle.design_lines.proofs.StageValues.{AreLedFrom, courses_along, courses_values}
use Rattle.std.proofs.Common.{All, List, arith, length, ℕ, ◌++◌, ◌≡◌}
use Rattle.design_lines.proofs.ValueSteps.{RunsAs}

pub courses_run : (case : Case) (network : Network) (R : ℕ → ℕ → Rational → Rational → Type 0)
    (courses : List (List LedStage)) (values more final : Valuation) (next stream : ℕ)
    → next ≡ length values → HaveOwn case values → AreLedFrom case network next stream courses
    → EachRuns case network R stream courses → final ≡ values ++ (courses_values courses ++ more)
    → All (RunsAs case network R final) (courses_lines next stream (courses_along courses))
courses_run case network R courses values more final next stream start own led runs =
    (made_courses case network R courses values next stream start own led runs).runs final more

-- ---- the ends of a run

pub enters-run : (of : Side) (from to : BranchValue) → enters of (run_between of from to) ≡ from.t
enters-run of from to = grind arith

pub leaves-run : (of : Side) (from to : BranchValue) → leaves of (run_between of from to) ≡ to.t
leaves-run of from to = grind arith
