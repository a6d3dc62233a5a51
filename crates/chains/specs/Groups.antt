-- Groups of hot sources to which the same cold sources are permitted.
use Rattle.std.specs.Prelude.{◌≡◌, ◌≢◌, ◌↔◌, ℕ, ◌+◌, ◌<◌, ◌≤◌, IsTrue, List, length, All, AllPairs, Contains, Some, slice_get}
use Rattle.stream_case.specs.declared.source.Side.TheVariants.{Hot, Cold}
use Rattle.stream_case.specs.declared.source.Source.{Source}
use Rattle.stream_case.specs.declared.case.Case.{Case}
use Rattle.stream_case.specs.Case.{side_of, is_forbidden}
use Rattle.grid.specs.declared.part.Part.{Part}
use Rattle.heat_flow.specs.Reach.{reach_between}
use Rattle.flow_net.specs.declared.net.Net.{Net}
use Rattle.chains.specs.declared.net.Group.{Group}
use Rattle.chains.specs.Path.{LeadsTo}

-- the same cold sources are permitted to two hot sources
abbrev pub HaveSamePartners : Case → Source → Source → Type 0
HaveSamePartners c p q =
    (cold : Source) → side_of c cold ≡ Some Cold → is_forbidden c.forbids p cold ≡ is_forbidden c.forbids q cold

-- the source stands in the group at an index
abbrev pub StandsIn : List Group → ℕ → Source → Type 0
StandsIn groups i source = (g : Group) × (slice_get groups i ≡ Some g) × Contains g.sources source

-- each hot source stands in one group, once, and two stand in the same group exactly where the same cold sources are
-- permitted to them; no group is empty
pub record AreGroups (c : Case) (groups : List Group) : Type 0 where
  pub hot : (i : ℕ) (source : Source) → StandsIn groups i source → side_of c source ≡ Some Hot
  pub some : (source : Source) → side_of c source ≡ Some Hot → (i : ℕ) × StandsIn groups i source
  pub filled : All (λ g. 0 < length g.sources) groups
  pub once : All (λ g. AllPairs (λ p q. p ≢ q) g.sources) groups
  pub alike : (i j : ℕ) (p q : Source) → StandsIn groups i p → StandsIn groups j q → ((i ≡ j) ↔ HaveSamePartners c p q)

-- the first node of a group is a chain node, from which a path leads to each cold part that a hot part of the group
-- reaches
pub record StartsChain (c : Case) (hot cold : List Part) (net : Net) (g : Group) : Type 0 where
  pub from : (length hot + length cold) ≤ g.first_node
  pub within : g.first_node < net.nodes
  pub leads : (a b : ℕ) (p : Part) → slice_get hot a ≡ Some p → Contains g.sources p.source
      → IsTrue (reach_between c hot cold a b)
      → LeadsTo net.links g.first_node (length hot + b)
