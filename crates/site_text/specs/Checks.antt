-- The checks of a row, in their order. A check is a sentence on the row and on what the rows before it gave.
use Rattle.std.specs.Prelude.{ℕ, Bool, not, ◌==◌, ◌||◌, List, [], ◌∷◌, length, Option, Some, None, is_some, nat_lt, codes}
use Rattle.std.specs.List.{list_any}
use Rattle.std.specs.Str.{bytes_eq}
use Rattle.rows.specs.Rows.{Row}
use Rattle.first_fault.specs.Checks.{Check}
use Rattle.stream_case.specs.Name.{is_name}
use Rattle.stream_case.specs.Source.{is_right_way}
use Rattle.stream_case.specs.Stream.{count_on}
use Rattle.stream_case.specs.declared.limits.TheConstants.{MOST_MAINS}
use Rattle.stream_case.specs.declared.source.Side.{Side}
use Rattle.rows.specs.ContributionRow as of_rows
use Rattle.rows.specs.declared.contribution_row.ContributionCauses.{ContributionCauses}
use Rattle.rows.specs.Fields.{are_empty, field, is_number, number}
use Rattle.rows.specs.Numbers.{is_flow_rate, is_temperature}
use Rattle.site_text.specs.Site.{streams_of}
use Rattle.site_text.specs.declared.limits.TheConstants.{MOST_PLANTS, MOST_SIDE_STREAMS}
use Rattle.site_text.specs.Given.{Given, kind_of}
use Rattle.site_text.specs.declared.fault.SiteWhy.{SiteWhy}
use Rattle.site_text.specs.declared.fault.SiteWhy.TheVariants as why
use Rattle.site_text.specs.declared.kind.Kind.{Kind}
use Rattle.site_text.specs.declared.kind.Kind.TheVariants as kind

-- ---- names

-- the names of the utilities of a site, which no stream may have
unfoldable pub is_reserved : List ℕ → Bool
is_reserved name = bytes_eq name (codes "BOILER") || bytes_eq name (codes "COOLING")

-- one of these has the name
unfoldable pub is_among : {X : Type 0} → (X → List ℕ) → List X → List ℕ → Bool
is_among name_of xs name = list_any (λ x. bytes_eq name (name_of x)) xs

-- plants, mains and streams have names of their own
abbrev pub is_plant : Given → List ℕ → Bool
is_plant earlier name = is_among (λ plant. plant.name) earlier.plants name

abbrev pub is_main : Given → List ℕ → Bool
is_main earlier name = is_among (λ main. main.name) earlier.mains name

abbrev pub is_stream : Given → List ℕ → Bool
is_stream earlier name = is_among (λ s. s.name) (streams_of earlier.plants) name

-- ---- the checks of each kind of row

abbrev pub contribution_causes : ContributionCauses SiteWhy
contribution_causes = record {
  field_count = why.FieldCount;
  repeated = why.Repeated;
  bad_number = why.BadNumber;
  out_of_range = why.OutOfRange;
}

abbrev pub contribution_checks : Given → Row → List (Check SiteWhy)
contribution_checks earlier row = of_rows.contribution_checks contribution_causes (is_some earlier.contribution) row

unfoldable pub plant_checks : Given → Row → List (Check SiteWhy)
plant_checks earlier row =
    (are_empty row (2 ∷ 3 ∷ 4 ∷ 5 ∷ 6 ∷ []), why.FieldCount)
    ∷ (nat_lt (length earlier.plants) MOST_PLANTS, why.TooMany)
    ∷ (is_name (field row 1), why.BadName)
    ∷ (not (is_plant earlier (field row 1)), why.SameName)
    ∷ []

unfoldable pub main_checks : Given → Row → List (Check SiteWhy)
main_checks earlier row =
    (are_empty row (3 ∷ 4 ∷ 5 ∷ 6 ∷ []), why.FieldCount)
    ∷ (nat_lt (length earlier.mains) MOST_MAINS, why.TooMany)
    ∷ (is_name (field row 1), why.BadName)
    ∷ (not (is_main earlier (field row 1)), why.SameName)
    ∷ (is_number row 2, why.BadNumber)
    ∷ (is_temperature (number row 2), why.OutOfRange)
    ∷ []

unfoldable pub stream_number_checks : Side → Row → List (Check SiteWhy)
stream_number_checks of row =
    (is_number row 2, why.BadNumber)
    ∷ (is_number row 3, why.BadNumber)
    ∷ (is_number row 4, why.BadNumber)
    ∷ (is_temperature (number row 2), why.OutOfRange)
    ∷ (is_temperature (number row 3), why.OutOfRange)
    ∷ (is_flow_rate (number row 4), why.OutOfRange)
    ∷ (is_right_way of (number row 2) (number row 3), why.WrongWay)
    ∷ []

unfoldable pub stream_checks : Side → Given → Row → List (Check SiteWhy)
stream_checks of earlier row =
    (are_empty row (5 ∷ 6 ∷ []), why.FieldCount)
    ∷ (nat_lt (count_on of (streams_of earlier.plants)) MOST_SIDE_STREAMS, why.TooMany)
    ∷ (not (length earlier.plants == 0), why.NoPlant)
    ∷ (is_name (field row 1), why.BadName)
    ∷ (not (is_reserved (field row 1)), why.BadName)
    ∷ (not (is_stream earlier (field row 1)), why.SameName)
    ∷ stream_number_checks of row

unfoldable pub kind_checks : Option Kind → Given → Row → List (Check SiteWhy)
kind_checks None earlier row = []
kind_checks (Some kind.PassedOver) earlier row = []
kind_checks (Some kind.Contribution) earlier row = contribution_checks earlier row
kind_checks (Some kind.Plant) earlier row = plant_checks earlier row
kind_checks (Some kind.Main) earlier row = main_checks earlier row
kind_checks (Some (kind.Stream of)) earlier row = stream_checks of earlier row

-- ---- the checks of a row, and of the end

-- the checks of a row, behind rows that gave this
unfoldable pub checks : Given → Row → List (Check SiteWhy)
checks earlier row =
    (length row == 7, why.FieldCount) ∷ (is_some (kind_of row), why.UnknownKind) ∷ kind_checks (kind_of row) earlier row

-- the checks at the end of the file
unfoldable pub end_checks : Given → List (Check SiteWhy)
end_checks all =
    (is_some all.contribution, why.NoContribution)
    ∷ (not (length all.mains == 0), why.NoMain)
    ∷ (not (length (streams_of all.plants) == 0), why.NoStream)
    ∷ []
