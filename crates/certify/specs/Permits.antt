-- The table of sources that tells which may take heat from which.
use Rattle.std.specs.Prelude.{◌<◌, Bool, List, [], length, All, slice_index_or}
use Rattle.stream_case.specs.Case.{IsComplete, IsSourceOf}
use Rattle.stream_case.specs.declared.case.Case.{Case}
use Rattle.stream_case.specs.declared.source.Source.{Source}
use Rattle.grid.specs.declared.part.Part.{Part}
use Rattle.heat_flow.specs.Cells.{ArePermissions, source_index}

-- each row that there is tells which sources may take heat from its source
abbrev pub HavePermits : Case → List (List Bool) → Type 0
HavePermits c rows = (hot : Source) → IsSourceOf c hot → source_index c hot < length rows
    → ArePermissions c c.forbids hot (slice_index_or rows (source_index c hot) [])

-- each source has a row
pub record ArePermits (c : Case) (rows : List (List Bool)) : Type 0 where
  pub some : (hot : Source) → IsSourceOf c hot → source_index c hot < length rows
  pub each : HavePermits c rows

-- a completed case, parts of its sources, and the table of its sources
pub record IsSetting (c : Case) (hot cold : List Part) (rows : List (List Bool)) : Type 0 where
  pub complete : IsComplete c
  pub hot_sources : All (λ p. IsSourceOf c p.source) hot
  pub cold_sources : All (λ p. IsSourceOf c p.source) cold
  pub permits : ArePermits c rows
