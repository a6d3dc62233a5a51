-- The checks of a row, in their order. A check is a sentence on the row and on what the rows before it gave.
use Rattle.std.specs.Prelude.{ℕ, pos, Bool, not, ◌==◌, ◌&&◌, ◌||◌, List, [], ◌∷◌, length, Option, Some, None, is_some, if◌then◌else◌, nat_lt, int_le, option_and_then, codes}
use Rattle.std.specs.List.{list_any}
use Rattle.std.specs.Ordering.{int_eq}
use Rattle.std.specs.Str.{bytes_eq}
use Rattle.rows.specs.Rows.{Row}
use Rattle.first_fault.specs.Checks.{Check}
use Rattle.stream_case.specs.Case.{is_forbidden, names_of, side_of, source_named}
use Rattle.stream_case.specs.Name.{is_name}
use Rattle.stream_case.specs.Source.{is_right_way, is_side}
use Rattle.stream_case.specs.Stream.{count_on}
use Rattle.stream_case.specs.declared.case.Case.{Case}
use Rattle.stream_case.specs.declared.limits.TheConstants.{MOST_FORBIDS, MOST_STREAMS, MOST_UTILITIES}
use Rattle.stream_case.specs.declared.source.Side.{Side}
use Rattle.stream_case.specs.declared.source.Side.TheVariants as side
use Rattle.rows.specs.ContributionRow as of_rows
use Rattle.rows.specs.declared.contribution_row.ContributionCauses.{ContributionCauses}
use Rattle.rows.specs.Fields.{are_empty, field, is_number, is_number_or_empty, number, optional_number}
use Rattle.rows.specs.Numbers.{is_flow_rate_beside, is_heat, is_own_contribution, is_own_load, is_price, is_temperature}
use Rattle.case_text.specs.Rows.{kind_of}
use Rattle.case_text.specs.Given.{Given, case_of, source_at, stream_data}
use Rattle.case_text.specs.declared.entry.StreamData.{StreamData}
use Rattle.case_text.specs.declared.fault.CaseWhy.{CaseWhy}
use Rattle.case_text.specs.declared.fault.CaseWhy.TheVariants as why
use Rattle.case_text.specs.declared.kind.Kind.{Kind}
use Rattle.case_text.specs.declared.kind.Kind.TheVariants as kind

-- ---- names

-- the names of the standard utilities, which no stream may have
unfoldable pub is_reserved : List ℕ → Bool
is_reserved name = bytes_eq name (codes "HOT") || bytes_eq name (codes "COLD")

-- the name of the other side's standard utility, which no utility may have
unfoldable pub is_reserved_from : Side → List ℕ → Bool
is_reserved_from side.Hot name = bytes_eq name (codes "COLD")
is_reserved_from side.Cold name = bytes_eq name (codes "HOT")

-- a stream or a utility of the case so far has this name
unfoldable pub is_taken : Case → List ℕ → Bool
is_taken earlier name = list_any (bytes_eq name) (names_of earlier)

-- ---- sources

-- a source of the case so far, on this side, has this name
unfoldable pub is_source : Side → Case → List ℕ → Bool
is_source of earlier name = is_side of (option_and_then (side_of earlier) (source_named earlier name))

-- ---- the checks of each kind of row

abbrev pub contribution_causes : ContributionCauses CaseWhy
contribution_causes = record {
  field_count = why.FieldCount;
  repeated = why.Repeated;
  bad_number = why.BadNumber;
  out_of_range = why.OutOfRange;
}

abbrev pub contribution_checks : Given → Row → List (Check CaseWhy)
contribution_checks earlier row = of_rows.contribution_checks contribution_causes (is_some earlier.contribution) row

-- it stays at one temperature, by no heat-capacity flow
abbrev pub latent_checks : StreamData → List (Check CaseWhy)
latent_checks s = (int_eq s.supply s.target && int_eq s.cp (pos 0), why.NotLatent) ∷ []

-- it leaves its temperature, the right way
abbrev pub sensible_checks : StreamData → List (Check CaseWhy)
sensible_checks s =
    (not (int_eq s.supply s.target), why.NoLoad) ∷ (is_right_way s.side s.supply s.target, why.WrongWay) ∷ []

-- the checks of a stream whose numbers are in their ranges: it is latent where it gives a load
unfoldable pub heat_checks : StreamData → List (Check CaseWhy)
heat_checks s = if is_some s.load then latent_checks s else sensible_checks s

unfoldable pub stream_number_checks : Side → Row → List (Check CaseWhy)
stream_number_checks of row =
    (is_number row 2, why.BadNumber)
    ∷ (is_number row 3, why.BadNumber)
    ∷ (is_number row 4, why.BadNumber)
    ∷ (is_number_or_empty row 5, why.BadNumber)
    ∷ (is_number_or_empty row 6, why.BadNumber)
    ∷ (is_temperature (number row 2), why.OutOfRange)
    ∷ (is_temperature (number row 3), why.OutOfRange)
    ∷ (is_flow_rate_beside (optional_number row 5) (number row 4), why.OutOfRange)
    ∷ (is_own_load (optional_number row 5), why.OutOfRange)
    ∷ (is_own_contribution (optional_number row 6), why.OutOfRange)
    ∷ heat_checks (stream_data of row)

unfoldable pub stream_checks : Side → Given → Row → List (Check CaseWhy)
stream_checks of earlier row =
    (nat_lt (count_on of (case_of earlier).streams) MOST_STREAMS, why.TooMany)
    ∷ (is_name (field row 1), why.BadName)
    ∷ (not (is_reserved (field row 1)), why.BadName)
    ∷ (not (is_taken (case_of earlier) (field row 1)), why.SameName)
    ∷ stream_number_checks of row

unfoldable pub utility_number_checks : Row → List (Check CaseWhy)
utility_number_checks row =
    (is_number row 2, why.BadNumber)
    ∷ (is_number row 3, why.BadNumber)
    ∷ (is_number row 4, why.BadNumber)
    ∷ (is_number row 5, why.BadNumber)
    ∷ (is_number_or_empty row 6, why.BadNumber)
    ∷ (is_temperature (number row 2), why.OutOfRange)
    ∷ (is_heat (number row 3), why.OutOfRange)
    ∷ (is_heat (number row 4), why.OutOfRange)
    ∷ (is_price (number row 5), why.OutOfRange)
    ∷ (is_own_contribution (optional_number row 6), why.OutOfRange)
    ∷ (int_le (number row 3) (number row 4), why.BadRange)
    ∷ []

unfoldable pub utility_checks : Side → Given → Row → List (Check CaseWhy)
utility_checks of earlier row =
    (nat_lt (length earlier.utilities) MOST_UTILITIES, why.TooMany)
    ∷ (is_name (field row 1), why.BadName)
    ∷ (not (is_reserved_from of (field row 1)), why.BadName)
    ∷ (not (is_taken (case_of earlier) (field row 1)), why.SameName)
    ∷ utility_number_checks row

unfoldable pub forbid_checks : Given → Row → List (Check CaseWhy)
forbid_checks earlier row =
    (are_empty row (3 ∷ 4 ∷ 5 ∷ 6 ∷ []), why.FieldCount)
    ∷ (nat_lt (length earlier.forbids) MOST_FORBIDS, why.TooMany)
    ∷ (is_name (field row 1), why.BadName)
    ∷ (is_name (field row 2), why.BadName)
    ∷ (is_source side.Hot (case_of earlier) (field row 1), why.UnknownName)
    ∷ (is_source side.Cold (case_of earlier) (field row 2), why.UnknownName)
    ∷ (not (is_forbidden earlier.forbids (source_at earlier (field row 1)) (source_at earlier (field row 2))), why.Repeated)
    ∷ []

unfoldable pub kind_checks : Option Kind → Given → Row → List (Check CaseWhy)
kind_checks None earlier row = []
kind_checks (Some kind.PassedOver) earlier row = []
kind_checks (Some kind.Contribution) earlier row = contribution_checks earlier row
kind_checks (Some (kind.Stream of)) earlier row = stream_checks of earlier row
kind_checks (Some (kind.Utility of)) earlier row = utility_checks of earlier row
kind_checks (Some kind.Forbid) earlier row = forbid_checks earlier row

-- ---- the checks of a row, and of the end

-- the checks of a row, behind rows that gave this
unfoldable pub checks : Given → Row → List (Check CaseWhy)
checks earlier row =
    (length row == 7, why.FieldCount) ∷ (is_some (kind_of row), why.UnknownKind) ∷ kind_checks (kind_of row) earlier row

-- the checks at the end of the file
unfoldable pub end_checks : Given → List (Check CaseWhy)
end_checks all = (is_some all.contribution, why.NoContribution) ∷ (not (length all.streams == 0), why.NoStream) ∷ []
