-- What the rows of a study file say, in their order, and the study that is made of it.
use Rattle.std.specs.Prelude.{ℕ, ℤ, Bool, true, false, not, ◌==◌, ◌&&◌, ◌||◌, List, [], ◌∷◌, count_by, slice_set}
use Rattle.std.specs.List.{list_any}
use Rattle.std.specs.Str.{bytes_eq}
use Rattle.stream_case.specs.declared.case.Case.{Case}
use Rattle.study_text.specs.Study.{case_prices}
use Rattle.study_text.specs.declared.entry.Entry.{Entry}
use Rattle.study_text.specs.declared.entry.Entry.TheVariants as entry
use Rattle.study_text.specs.declared.study.Study.{Study}
use Rattle.study_text.specs.declared.study.StudyItem.{StudyItem}
use Rattle.study_text.specs.declared.study.StudyItem.TheVariants as item

-- ---- scenarios, spans and prices

abbrev pub is_scenario : Entry → Bool
is_scenario (entry.Scenario name) = true
is_scenario (entry.Price i price) = false
is_scenario (entry.Span i from to) = false

abbrev pub is_scenario_named : List ℕ → Entry → Bool
is_scenario_named name (entry.Scenario own) = bytes_eq name own
is_scenario_named name (entry.Price i price) = false
is_scenario_named name (entry.Span i from to) = false

-- a scenario or a span
abbrev pub is_item : Entry → Bool
is_item (entry.Scenario name) = true
is_item (entry.Price i price) = false
is_item (entry.Span i from to) = true

-- a price of utility number i
abbrev pub is_price_of : ℕ → Entry → Bool
is_price_of i (entry.Scenario name) = false
is_price_of i (entry.Price utility price) = utility == i
is_price_of i (entry.Span utility from to) = false

abbrev pub count_items : List Entry → ℕ
count_items entries = count_by is_item entries

abbrev pub has_scenario : List Entry → Bool
has_scenario entries = list_any is_scenario entries

-- the last scenario has a price of utility number i: one that no scenario stands behind
abbrev pub is_priced : ℕ → List Entry → Bool
is_priced i [] = false
is_priced i (e ∷ entries) = (is_price_of i e && not (has_scenario entries)) || is_priced i entries

-- ---- the study

-- the prices of a scenario, behind which these entries stand: the given ones but for the prices down to the next
-- scenario, whether spans stand between or not
abbrev pub prices_by : List ℤ → List Entry → List ℤ
prices_by prices [] = prices
prices_by prices (entry.Scenario name ∷ entries) = prices
prices_by prices (entry.Price i price ∷ entries) = prices_by (slice_set prices i price) entries
prices_by prices (entry.Span i from to ∷ entries) = prices_by prices entries

-- a scenario has the prices of the case but for those of its own
abbrev pub items_of : Case → List Entry → List StudyItem
items_of c [] = []
items_of c (entry.Scenario name ∷ entries) = item.Scenario name (prices_by (case_prices c) entries) ∷ items_of c entries
items_of c (entry.Price i price ∷ entries) = items_of c entries
items_of c (entry.Span i from to ∷ entries) = item.Span i from to ∷ items_of c entries

abbrev pub study_of : Case → List Entry → Study
study_of c entries = record { items = items_of c entries }
