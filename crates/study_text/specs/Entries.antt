-- What accepted rows of a study file say, and where the rows of the last scenario begin.
use Rattle.std.specs.Prelude.{◌≡◌, ℕ, ◌<◌, ◌≤◌, List, drop, length}
use Rattle.std.specs.List.{list_any}
use Rattle.stream_case.specs.Limits.{IsPrice}
use Rattle.stream_case.specs.declared.case.Case.{Case}
use Rattle.study_text.specs.Study.{IsSpan}
use Rattle.study_text.specs.Given.{is_price_of, is_priced}
use Rattle.study_text.specs.declared.entry.Entry.{Entry}
use Rattle.study_text.specs.declared.entry.Entry.TheVariants as entry

-- its utility is one of the case, and its prices are within the limits
abbrev pub IsKnown : Case → Entry → Type 0
IsKnown c (entry.Scenario name) = Unit {0}
IsKnown c (entry.Price i price) = (i < length c.utilities) × IsPrice price
IsKnown c (entry.Span i from to) = IsSpan c i from to

-- from this index on stand the entries whose prices are of the last scenario
pub record IsOwn (own : ℕ) (entries : List Entry) : Type 0 where
  pub within : own ≤ length entries
  pub priced : (i : ℕ) → is_priced i entries ≡ list_any (is_price_of i) (drop own entries)
