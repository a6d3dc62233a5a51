-- Parts on the grid of a case.
use Rattle.std.specs.Prelude.{◌≡◌, ◌⊎◌, ℤ, List, All, Contains, Some}
use Rattle.stream_case.specs.declared.source.Side.{Side}
use Rattle.stream_case.specs.declared.source.Side.TheVariants.{Hot, Cold}
use Rattle.stream_case.specs.declared.case.Case.{Case}
use Rattle.stream_case.specs.Case.{side_of}
use Rattle.grid.specs.declared.part.Part.{Part}
use Rattle.grid.specs.Grid.{IsGrid}
use Rattle.grid.specs.Part.{IsInterval}

-- a part of a source of this side, at a place or on the interval between two neighbours; its range and its price are
-- free
pub record IsOnPlaces (c : Case) (places : List ℤ) (side : Side) (p : Part) : Type 0 where
  pub source : side_of c p.source ≡ Some side
  pub ends : ((p.high ≡ p.low) × Contains places p.high) ⊎ IsInterval places p.high p.low

-- parts of both sides on the grid of the case, as the case's parts are, whatever the prices of the utilities
pub record AreOnGrid (c : Case) (hot cold : List Part) : Type 0 where
  pub grid : List ℤ
  pub is_grid : IsGrid c grid
  pub hot_parts : All (IsOnPlaces c grid Hot) hot
  pub cold_parts : All (IsOnPlaces c grid Cold) cold
