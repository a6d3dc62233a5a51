-- The kind of a row of a study file, and what the row says.
use Rattle.std.specs.Prelude.{ℕ, List, ◌++◌, filter_map, Option, Some, None, option_to_list, unwrap_or, if◌then◌else◌, codes}
use Rattle.std.specs.Str.{bytes_eq}
use Rattle.rows.specs.Fields.{field, is_passed_over, number}
use Rattle.rows.specs.Rows.{Row}
use Rattle.stream_case.specs.Case.{utility_named}
use Rattle.stream_case.specs.declared.case.Case.{Case}
use Rattle.study_text.specs.declared.entry.Entry.{Entry}
use Rattle.study_text.specs.declared.entry.Entry.TheVariants as entry
use Rattle.study_text.specs.declared.kind.Kind.{Kind}
use Rattle.study_text.specs.declared.kind.Kind.TheVariants as kind

-- ---- the kind of a row

abbrev pub kind_in : List ℕ → Option Kind
kind_in text =
    if bytes_eq text (codes "scenario") then Some kind.Scenario
    else if bytes_eq text (codes "price") then Some kind.Price
    else if bytes_eq text (codes "span") then Some kind.Span
    else None

-- a row of four fields is passed over, or its first field names its kind; a field behind the fourth is empty
unfoldable pub kind_of : Row → Option Kind
kind_of row = if is_passed_over row then Some kind.PassedOver else kind_in (field row 0)

-- ---- the utility of a row

-- the index of the utility of the case which a row names; 0 where there is none
unfoldable pub utility_in : Case → Row → ℕ
utility_in c row = unwrap_or (utility_named c (field row 1)) 0

-- ---- what a row says

abbrev pub scenario_in : Row → Entry
scenario_in row = entry.Scenario (field row 1)

abbrev pub price_in : Case → Row → Entry
price_in c row = entry.Price (utility_in c row) (number row 2)

abbrev pub span_in : Case → Row → Entry
span_in c row = entry.Span (utility_in c row) (number row 2) (number row 3)

abbrev pub entry_by : Case → Option Kind → Row → Option Entry
entry_by c None row = None
entry_by c (Some kind.PassedOver) row = None
entry_by c (Some kind.Scenario) row = Some (scenario_in row)
entry_by c (Some kind.Price) row = Some (price_in c row)
entry_by c (Some kind.Span) row = Some (span_in c row)

abbrev pub entry_in : Case → Row → Option Entry
entry_in c row = entry_by c (kind_of row) row

-- what rows say, in their order
abbrev pub entries_in : Case → List Row → List Entry
entries_in c rows = filter_map (entry_in c) rows

-- what is said behind a row
abbrev pub next : Case → List Entry → Row → List Entry
next c entries row = entries ++ option_to_list (entry_in c row)
