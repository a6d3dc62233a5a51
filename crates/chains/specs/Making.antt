-- How a net of chains is made: the sources of a side, their partners, and the groups.
use Rattle.std.specs.Prelude.{◌≡◌, ◌≢◌, ◌+◌, ◌<◌, ◌≤◌, Bool, false, Some, List, [], length, map, slice_index_or, All, Contains}
use Rattle.std.specs.List.{enumerate_from, flat_map}
use Rattle.stream_case.specs.declared.source.Side.{Side}
use Rattle.stream_case.specs.declared.source.Side.TheVariants.{Hot, Cold}
use Rattle.stream_case.specs.declared.source.Source.{Source}
use Rattle.stream_case.specs.declared.source.Source.TheVariants.{Stream as of_stream, Utility as of_utility}
use Rattle.stream_case.specs.declared.stream.Stream.{Stream}
use Rattle.stream_case.specs.declared.utility.Utility.{Utility}
use Rattle.stream_case.specs.declared.case.Case.{Case}
use Rattle.stream_case.specs.Case.{side_among, side_of}
use Rattle.stream_case.specs.Source.{same_side}
use Rattle.stream_case.specs.Stream.{count_on}
use Rattle.sums.specs.Order.{Lists}
use Rattle.sums.specs.Pairing.{cons_if}
use Rattle.heat_flow.specs.Cells.{source_index, ArePermissions}
use Rattle.chains.specs.declared.net.Group.{Group}
use Rattle.chains.specs.declared.partners.Partners.{Partners}
use Rattle.chains.specs.ChainNet.{is_permitted}
use Rattle.chains.specs.Groups.{HaveSamePartners}

-- exactly the values that meet P, each once
abbrev pub ListsOnce : {X : Type 0} → (X → Type 0) → List X → Type 0
ListsOnce P xs = Lists (λ a b. a ≢ b) P xs

-- the sources of the streams on a side, and of the utilities
abbrev pub streams_on : Side → List Stream → List Source
streams_on side streams =
    flat_map (λ p. cons_if (same_side p.1.side side) (of_stream p.0) []) (enumerate_from 0 streams)

abbrev pub utilities_on : Side → List Utility → List Source
utilities_on side utilities =
    flat_map (λ p. cons_if (same_side p.1.side side) (of_utility p.0) []) (enumerate_from 0 utilities)

-- the sources of a side among these streams and utilities
pub record AreSources (streams : List Stream) (utilities : List Utility) (side : Side)
    (sources : List Source) : Type 0 where
  pub listed : ListsOnce (λ source. side_among streams utilities source ≡ Some side) sources
  pub few : length sources ≤ count_on side streams + length utilities

-- the hot sources of a table of partners
abbrev pub sources_in : List Partners → List Source
sources_in table = map (λ p. p.source) table

-- for each source of the case, whether it may take heat from the hot source
abbrev pub HasPartners : Case → Partners → Type 0
HasPartners c p = ArePermissions c c.forbids p.source p.allowed.items

-- the partners of these hot sources
pub record ArePartners (c : Case) (hot : List Source) (table : List Partners) : Type 0 where
  pub sources : sources_in table ≡ hot
  pub each : All (HasPartners c) table

-- a hot source to which the same cold sources are permitted as to the first one
pub record IsLike (c : Case) (first source : Source) : Type 0 where
  pub side : side_of c source ≡ Some Hot
  pub alike : HaveSamePartners c first source

-- some hot sources to which the same cold sources are permitted
pub record IsGroup (c : Case) (g : Group) : Type 0 where
  pub filled : 0 < length g.sources
  pub alike : (p q : Source) → Contains g.sources p → Contains g.sources q → HaveSamePartners c p q

-- for each source of the case a truth value: that of a cold source is whether it is permitted to the group
pub record ArePermitted (c : Case) (g : Group) (permitted : List Bool) : Type 0 where
  pub count : length permitted ≡ length c.streams + length c.utilities
  pub each : (cold : Source) → side_of c cold ≡ Some Cold
      → slice_index_or permitted (source_index c cold) false ≡ is_permitted c g cold
