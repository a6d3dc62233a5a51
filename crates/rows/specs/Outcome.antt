-- The outcome of the rows of a file: the first row at fault, else the fault of the end, else the value of what they
-- give.
use Rattle.std.specs.Prelude.{ℕ, ◌+◌, List, Option, option_map, Result, Ok, Err}
use Rattle.first_fault.specs.Checks.{Check, first_failing}
use Rattle.first_fault.specs.Outcome.{Grammar, IsFault, IsValue}
use Rattle.rows.specs.Rows.{Row}
use Rattle.rows.specs.declared.fault.RowFault.{RowFault}
use Rattle.rows.specs.declared.fault.RowFault.TheVariants as fault

-- what the end of a file lacks is at fault as the row behind the last
abbrev pub end_fault : {Given Why : Type 0} → (Given → List (Check Why)) → ℕ → Given → Option (ℕ × Why)
end_fault end_checks rows all = option_map (λ why. (rows + 1, why)) (first_failing (end_checks all))

-- the outcome of rows by their grammar; want of memory is none
abbrev pub IsRowOutcome : {Given Value Why : Type 0} → Grammar Row Given Value Why → List Row
    → Result Value (RowFault Why) → Type 0
IsRowOutcome grammar rows (Ok value) = IsValue grammar rows value
IsRowOutcome grammar rows (Err (fault.Row row why)) = IsFault grammar rows row why
IsRowOutcome grammar rows (Err fault.OutOfMemory) = Unit {0}
