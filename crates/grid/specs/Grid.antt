-- The places of streams and utilities, and the grid of a case.
use Rattle.std.specs.Prelude.{ℤ, ◌<ℤ◌, List, ◌++◌, map, All, AllPairs, Contains}
use Rattle.stream_case.specs.declared.stream.Stream.{Stream}
use Rattle.stream_case.specs.declared.utility.Utility.{Utility}
use Rattle.stream_case.specs.declared.case.Case.{Case}
use Rattle.stream_case.specs.Stream.{stream_ends}
use Rattle.stream_case.specs.Utility.{shifted_level}
use Rattle.sums.specs.Order.{ListsFalling}

-- the shifted stream ends and utility levels
abbrev pub places_of : List Stream → List Utility → List ℤ
places_of streams utilities = stream_ends streams ++ map shifted_level utilities

-- strictly falling places that hold all of these, and may hold further ones
pub record HoldsPlaces (streams : List Stream) (utilities : List Utility) (places : List ℤ) : Type 0 where
  pub falls : AllPairs (λ a b. b <ℤ a) places
  pub holds : All (Contains places) (places_of streams utilities)

-- the strictly falling list of exactly those of a case
abbrev pub IsGrid : Case → List ℤ → Type 0
IsGrid c places = ListsFalling (Contains (places_of c.streams c.utilities)) places
