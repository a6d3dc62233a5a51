-- The outcome of statements: the first of them at fault, else the end that comes too soon, else the report.
use Rattle.std.specs.Prelude.{ℕ, ◌+◌, List, Option, Some, None, if◌then◌else◌, Result, Ok, Err}
use Rattle.first_fault.specs.Outcome.{Grammar, IsFault as IsFaultOf, IsValue}
use Rattle.statements.specs.Statements.{Statement, statements_of}
use Rattle.certify.specs.Given.{is_whole, next, report_in}
use Rattle.certify.specs.Checks.{checks}
use Rattle.certify.specs.declared.given.Given.{Given}
use Rattle.certify.specs.declared.given.Given.TheVariants as gave
use Rattle.certify.specs.declared.fault.ReportFault.{ReportFault}
use Rattle.certify.specs.declared.fault.ReportFault.TheVariants as fault
use Rattle.certify.specs.declared.fault.ReportWhy.{ReportWhy}
use Rattle.certify.specs.declared.fault.ReportWhy.TheVariants as why
use Rattle.certify.specs.declared.report.Report.{Report}

-- behind the last statement it is a fault that no cost and no cut was read
abbrev pub end_fault : ℕ → Given → Option (ℕ × ReportWhy)
end_fault count given = if is_whole given then None else Some (count + 1, why.Ended)

-- how statements are read
abbrev pub grammar : Grammar Statement Given Report ReportWhy
grammar = record { start = gave.Nothing; checks = checks; next = next; end_fault = end_fault; value = report_in }

-- the statement at fault, counted from 1, and its cause
abbrev pub IsFault : List Statement → ℕ → ReportWhy → Type 0
IsFault statements number cause = IsFaultOf grammar statements number cause

-- nothing is at fault, and the report is what the statements give
abbrev pub IsReport : List Statement → Report → Type 0
IsReport statements report = IsValue grammar statements report

-- the statements of a text give the report
abbrev pub IsReportOf : List ℕ → Report → Type 0
IsReportOf text report = IsReport (statements_of text) report

-- the outcome of statements; want of memory is none
abbrev pub IsOutcome : List Statement → Result Report ReportFault → Type 0
IsOutcome statements (Ok report) = IsReport statements report
IsOutcome statements (Err (fault.At number cause)) = IsFault statements number cause
IsOutcome statements (Err fault.OutOfMemory) = Unit {0}
