-- The outcome of a case file: the first row at fault, else the fault of the end, else the case.
use Rattle.std.specs.Prelude.{ℕ, List, Option, Result}
use Rattle.std.specs.declared.hash.DefaultHasher.{DefaultHasher}
use Rattle.first_fault.specs.Outcome.{Grammar}
use Rattle.first_fault.specs.Outcome as outcome
use Rattle.stream_case.specs.declared.case.Case.{Case}
use Rattle.rows.specs.Outcome.{IsRowOutcome}
use Rattle.rows.specs.Outcome as of_rows
use Rattle.rows.specs.Rows.{Row}
use Rattle.rows.specs.declared.fault.RowFault.{RowFault}
use Rattle.case_text.specs.Given.{Given, KeyedGiven, case_of, next, nothing}
use Rattle.case_text.specs.Checks.{checks, end_checks}
use Rattle.case_text.specs.declared.fault.CaseWhy.{CaseWhy}

abbrev pub end_fault : ℕ → Given → Option (ℕ × CaseWhy)
end_fault rows all = of_rows.end_fault end_checks rows all

abbrev pub grammar : Grammar Row Given Case CaseWhy
grammar = record { start = nothing; checks = checks; next = next; end_fault = end_fault; value = case_of }

-- the same, of what is kept under a key, which no row changes
abbrev pub keyed_grammar : DefaultHasher → Grammar Row KeyedGiven Case CaseWhy
keyed_grammar key = record {
  start = record { rows = nothing; key = key };
  checks = λ given row. checks given.rows row;
  next = λ given row. record given { rows = next given.rows row };
  end_fault = λ rows given. end_fault rows given.rows;
  value = λ given. case_of given.rows;
}

-- the row at fault, counted from 1, and its cause
abbrev pub IsFault : List Row → ℕ → CaseWhy → Type 0
IsFault rows row why = outcome.IsFault grammar rows row why

-- nothing is at fault, and the case is what the rows give
abbrev pub IsCase : List Row → Case → Type 0
IsCase rows case = outcome.IsValue grammar rows case

-- the outcome of rows; want of memory is none
abbrev pub IsOutcome : List Row → Result Case (RowFault CaseWhy) → Type 0
IsOutcome rows outcome = IsRowOutcome grammar rows outcome
