-- The sources of a case by index, and which of them a match may join.
use Rattle.std.specs.Prelude.{◌≡◌, ℕ, ◌+◌, Bool, false, not, List, length, slice_index_or}
use Rattle.stream_case.specs.declared.source.Source.{Source}
use Rattle.stream_case.specs.declared.source.Source.TheVariants.{Stream as of_stream, Utility as of_utility}
use Rattle.stream_case.specs.declared.case.Forbid.{Forbid}
use Rattle.stream_case.specs.declared.case.Case.{Case}
use Rattle.stream_case.specs.Case.{IsSourceOf, is_forbidden}

-- the index of a source among the streams of the case and then its utilities
abbrev pub source_index : Case → Source → ℕ
source_index c (of_stream i) = i
source_index c (of_utility i) = length c.streams + i

-- for each source of the case, whether it may take heat from this hot source
pub record ArePermissions (c : Case) (forbids : List Forbid) (hot : Source) (allowed : List Bool) : Type 0 where
  pub count : length allowed ≡ length c.streams + length c.utilities
  pub each : (cold : Source) → IsSourceOf c cold
      → slice_index_or allowed (source_index c cold) false ≡ not (is_forbidden forbids hot cold)
