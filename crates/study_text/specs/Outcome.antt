-- The outcome of a study file for a case: the first row at fault, else the fault of the end, else the study.
use Rattle.std.specs.Prelude.{◌≡◌, ℕ, List, [], Option, Result}
use Rattle.first_fault.specs.Outcome.{Grammar}
use Rattle.first_fault.specs.Outcome as outcome
use Rattle.rows.specs.Outcome.{IsRowOutcome}
use Rattle.rows.specs.Outcome as of_rows
use Rattle.rows.specs.Rows.{Row}
use Rattle.rows.specs.declared.fault.RowFault.{RowFault}
use Rattle.stream_case.specs.declared.case.Case.{Case}
use Rattle.study_text.specs.Checks.{checks, end_checks}
use Rattle.study_text.specs.Given.{study_of}
use Rattle.study_text.specs.Rows.{next}
use Rattle.study_text.specs.declared.entry.Entry.{Entry}
use Rattle.study_text.specs.declared.fault.StudyWhy.{StudyWhy}
use Rattle.study_text.specs.declared.study.Study.{Study}

abbrev pub end_fault : ℕ → List Entry → Option (ℕ × StudyWhy)
end_fault rows all = of_rows.end_fault end_checks rows all

abbrev pub grammar : Case → Grammar Row (List Entry) Study StudyWhy
grammar c = record { start = []; checks = checks c; next = next c; end_fault = end_fault; value = study_of c }

-- the row at fault, counted from 1, and its cause
abbrev pub IsStudyFault : Case → List Row → ℕ → StudyWhy → Type 0
IsStudyFault c rows row why = outcome.IsFault (grammar c) rows row why

-- nothing is at fault, and the study is what the rows say
abbrev pub IsStudyOf : Case → List Row → Study → Type 0
IsStudyOf c rows study = outcome.IsValue (grammar c) rows study

-- the outcome of rows; want of memory is none
abbrev pub IsStudyOutcome : Case → List Row → Result Study (RowFault StudyWhy) → Type 0
IsStudyOutcome c rows outcome = IsRowOutcome (grammar c) rows outcome

-- the study of rows, or the number and the cause of their fault, but for want of memory
abbrev pub IsOutcomeOf : Case → List Row → Result Study (ℕ × StudyWhy) → Type 0
IsOutcomeOf c rows found = outcome.IsOutcome (grammar c) rows found

-- there is one
abbrev pub HasOutcome : Case → List Row → Type 0
HasOutcome c rows = (outcome : Result Study (ℕ × StudyWhy)) × IsOutcomeOf c rows outcome

-- and no other: never two faults, two causes of one fault, two studies, or a fault and a study
abbrev pub OneOutcome : Case → List Row → Type 0
OneOutcome c rows =
    (outcome other : Result Study (ℕ × StudyWhy)) → IsOutcomeOf c rows outcome → IsOutcomeOf c rows other
    → outcome ≡ other
