-- What the rows that were read keep, and what may be added to them.
use Rattle.std.specs.Prelude.{◌≡◌, ℕ, ◌<◌, ◌≤◌, false, List, length, count_by, ⊤}
use Rattle.stream_case.specs.Source.{same_side}
use Rattle.stream_case.specs.Stream.{count_on}
use Rattle.stream_case.specs.declared.limits.TheConstants.{MOST_STREAMS, MOST_UTILITIES}
use Rattle.stream_case.specs.declared.source.Side.{Side}
use Rattle.case_text.specs.Given.{Given, case_of}
use Rattle.case_text.specs.Checks.{is_taken}
use Rattle.case_text.specs.declared.entry.Entry.{Entry}
use Rattle.case_text.specs.declared.entry.Entry.TheVariants as entry
use Rattle.case_text.specs.declared.entry.StreamData.{StreamData}
use Rattle.case_text.specs.declared.entry.UtilityData.{UtilityData}

-- the entry may be added: a source has a new name and is within the limits
abbrev pub IsFresh : Given → Entry → Type 0
IsFresh given entry.Nothing = Unit {0}
IsFresh given (entry.Contribution n) = Unit {0}
IsFresh given (entry.Stream name stream) =
    (is_taken (case_of given) name ≡ false) × (count_on stream.side (case_of given).streams < MOST_STREAMS)
IsFresh given (entry.Utility name utility) =
    (is_taken (case_of given) name ≡ false) × (length given.utilities < MOST_UTILITIES)
IsFresh given (entry.Forbid forbid) = Unit {0}

-- an entry that is kept in a list, and so takes memory
abbrev pub TakesMemory : Entry → Type 0
TakesMemory entry.Nothing = ⊥
TakesMemory (entry.Contribution n) = ⊥
TakesMemory (entry.Stream name stream) = ⊤
TakesMemory (entry.Utility name utility) = ⊤
TakesMemory (entry.Forbid forbid) = ⊤

-- few enough sources that their indexes fit in 32 bits
pub record HasFewSources (streams : List (List ℕ × StreamData)) (utilities : List (List ℕ × UtilityData)) : Type 0 where
  pub streams_on : (of : Side) → count_by (λ s. same_side s.1.side of) streams ≤ MOST_STREAMS
  pub few_utilities : length utilities ≤ MOST_UTILITIES
