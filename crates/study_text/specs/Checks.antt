-- The checks of a row of a study file, in their order. A check is a sentence on the row and on what the rows above it
-- say.
use Rattle.std.specs.Prelude.{◌-ℤ◌, not, ◌==◌, List, [], ◌∷◌, length, Option, Some, None, is_some, nat_lt, int_le, int_lt}
use Rattle.std.specs.List.{list_any}
use Rattle.first_fault.specs.Checks.{Check}
use Rattle.rows.specs.Fields.{are_empty, field, is_number, number}
use Rattle.rows.specs.Numbers.{is_price}
use Rattle.rows.specs.Rows.{Row}
use Rattle.stream_case.specs.Case.{utility_named}
use Rattle.stream_case.specs.Name.{is_name}
use Rattle.stream_case.specs.declared.case.Case.{Case}
use Rattle.study_text.specs.Given.{count_items, has_scenario, is_priced, is_scenario_named}
use Rattle.study_text.specs.Rows.{kind_of, utility_in}
use Rattle.study_text.specs.declared.limits.TheConstants.{MOST_ITEMS, MOST_SPAN}
use Rattle.study_text.specs.declared.entry.Entry.{Entry}
use Rattle.study_text.specs.declared.fault.StudyWhy.{StudyWhy}
use Rattle.study_text.specs.declared.fault.StudyWhy.TheVariants as why
use Rattle.study_text.specs.declared.kind.Kind.{Kind}
use Rattle.study_text.specs.declared.kind.Kind.TheVariants as kind

-- ---- the checks of each kind of row

abbrev pub known_utility : Case → Row → Check StudyWhy
known_utility c row = (is_some (utility_named c (field row 1)), why.UnknownName)

unfoldable pub scenario_checks : List Entry → Row → List (Check StudyWhy)
scenario_checks earlier row =
    (are_empty row (2 ∷ 3 ∷ []), why.FieldCount)
    ∷ (nat_lt (count_items earlier) MOST_ITEMS, why.TooMany)
    ∷ (is_name (field row 1), why.BadName)
    ∷ (not (list_any (is_scenario_named (field row 1)) earlier), why.SameName)
    ∷ []

unfoldable pub price_checks : Case → List Entry → Row → List (Check StudyWhy)
price_checks c earlier row =
    (are_empty row (3 ∷ []), why.FieldCount)
    ∷ (has_scenario earlier, why.NoScenario)
    ∷ known_utility c row
    ∷ (not (is_priced (utility_in c row) earlier), why.Repeated)
    ∷ (is_number row 2, why.BadNumber)
    ∷ (is_price (number row 2), why.OutOfRange)
    ∷ []

unfoldable pub span_number_checks : Row → List (Check StudyWhy)
span_number_checks row =
    (is_number row 2, why.BadNumber)
    ∷ (is_number row 3, why.BadNumber)
    ∷ (is_price (number row 2), why.OutOfRange)
    ∷ (is_price (number row 3), why.OutOfRange)
    ∷ (int_le (number row 2) (number row 3), why.BadRange)
    ∷ (int_lt (number row 3 -ℤ number row 2) MOST_SPAN, why.TooWide)
    ∷ []

unfoldable pub span_checks : Case → List Entry → Row → List (Check StudyWhy)
span_checks c earlier row =
    (nat_lt (count_items earlier) MOST_ITEMS, why.TooMany)
    ∷ known_utility c row
    ∷ span_number_checks row

unfoldable pub kind_checks : Case → Option Kind → List Entry → Row → List (Check StudyWhy)
kind_checks c None earlier row = []
kind_checks c (Some kind.PassedOver) earlier row = []
kind_checks c (Some kind.Scenario) earlier row = scenario_checks earlier row
kind_checks c (Some kind.Price) earlier row = price_checks c earlier row
kind_checks c (Some kind.Span) earlier row = span_checks c earlier row

-- ---- the checks of a row, and of the end

-- the checks of a row, behind rows that say this
unfoldable pub checks : Case → List Entry → Row → List (Check StudyWhy)
checks c earlier row =
    (length row == 4, why.FieldCount) ∷ (is_some (kind_of row), why.UnknownKind) ∷ kind_checks c (kind_of row) earlier row

-- the checks at the end of the file
unfoldable pub end_checks : List Entry → List (Check StudyWhy)
end_checks all = (not (count_items all == 0), why.NoItem) ∷ []
