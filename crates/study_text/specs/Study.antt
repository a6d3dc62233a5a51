-- Price studies of a case.
use Rattle.std.specs.Prelude.{◌≡◌, ℕ, ◌<◌, ◌≤◌, ℤ, ◌-ℤ◌, ◌≤ℤ◌, ◌<ℤ◌, List, length, map, All}
use Rattle.stream_case.specs.Limits.{IsPrice}
use Rattle.stream_case.specs.declared.case.Case.{Case}
use Rattle.study_text.specs.declared.limits.TheConstants.{MOST_ITEMS, MOST_SPAN}
use Rattle.study_text.specs.declared.study.Study.{Study}
use Rattle.study_text.specs.declared.study.StudyItem.{StudyItem}
use Rattle.study_text.specs.declared.study.StudyItem.TheVariants.{Scenario, Span}

-- the prices of the utilities of the case
abbrev pub case_prices : Case → List ℤ
case_prices c = map (λ u. u.price) c.utilities

-- a price for each utility of the case
pub record AreCasePrices (c : Case) (prices : List ℤ) : Type 0 where
  pub one_each : length prices ≡ length c.utilities
  pub within : All IsPrice prices

-- prices of a utility of the case from `from` to `to`, at most `MOST_SPAN` of them
pub record IsSpan (c : Case) (i : ℕ) (from to : ℤ) : Type 0 where
  pub utility : i < length c.utilities
  pub first : IsPrice from
  pub last : IsPrice to
  pub order : from ≤ℤ to
  pub few : (to -ℤ from) <ℤ MOST_SPAN

abbrev pub IsItem : Case → StudyItem → Type 0
IsItem c (Scenario name prices) = AreCasePrices c prices
IsItem c (Span i from to) = IsSpan c i from to

-- a study of the case
pub record IsStudy (c : Case) (study : Study) : Type 0 where
  pub items : All (IsItem c) study.items
  pub few : length study.items ≤ MOST_ITEMS
