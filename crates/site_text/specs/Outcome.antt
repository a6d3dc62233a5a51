-- The outcome of a site file: the first row at fault, else the fault of the end, else the site.
use Rattle.std.specs.Prelude.{ℕ, List, Option, Result}
use Rattle.first_fault.specs.Outcome.{Grammar}
use Rattle.first_fault.specs.Outcome as outcome
use Rattle.rows.specs.Outcome.{IsRowOutcome}
use Rattle.rows.specs.Outcome as of_rows
use Rattle.rows.specs.Rows.{Row}
use Rattle.rows.specs.declared.fault.RowFault.{RowFault}
use Rattle.site_text.specs.declared.site.Site.{Site}
use Rattle.site_text.specs.Given.{Given, site_of, next, nothing}
use Rattle.site_text.specs.Checks.{checks, end_checks}
use Rattle.site_text.specs.declared.fault.SiteWhy.{SiteWhy}

abbrev pub end_fault : ℕ → Given → Option (ℕ × SiteWhy)
end_fault rows all = of_rows.end_fault end_checks rows all

abbrev pub grammar : Grammar Row Given Site SiteWhy
grammar = record { start = nothing; checks = checks; next = next; end_fault = end_fault; value = site_of }

-- the row at fault, counted from 1, and its cause
abbrev pub IsFault : List Row → ℕ → SiteWhy → Type 0
IsFault rows row why = outcome.IsFault grammar rows row why

-- nothing is at fault, and the site is what the rows give
abbrev pub IsSite : List Row → Site → Type 0
IsSite rows site = outcome.IsValue grammar rows site

-- the outcome of rows; want of memory is none
abbrev pub IsOutcome : List Row → Result Site (RowFault SiteWhy) → Type 0
IsOutcome rows outcome = IsRowOutcome grammar rows outcome
