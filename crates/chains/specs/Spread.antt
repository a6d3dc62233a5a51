-- The transfers into which a flow of an inner net is taken apart.
use Rattle.std.specs.Prelude.{◌≡◌, ℕ, ◌+◌, ◌<◌, ℤ, List, All, AllPairs}
use Rattle.stream_case.specs.declared.source.Side.TheVariants.{Hot, Cold}
use Rattle.heat_flow.specs.declared.flow.Transfer.{Transfer}
use Rattle.heat_flow.specs.Flow.{heat_at, precedes, ArePositive}
use Rattle.flow_net.specs.declared.net.Link.{Link}
use Rattle.flow_net.specs.Net.{inflow, outflow}
use Rattle.chains.specs.Path.{LeadsTo}

-- positive transfers in order, between parts that a path joins: those of a hot part add up to what leaves its node, and
-- those of a cold part to what enters its node
pub record IsSpread (hots colds : ℕ) (links : List Link) (flow : List ℤ) (transfers : List Transfer) : Type 0 where
  pub positive : ArePositive transfers
  pub ordered : AllPairs precedes transfers
  pub hot_indexes : All (λ t. t.hot < hots) transfers
  pub cold_indexes : All (λ t. t.cold < colds) transfers
  pub joined : All (λ t. LeadsTo links t.hot (hots + t.cold)) transfers
  pub given : (a : ℕ) → a < hots → heat_at Hot transfers a ≡ outflow links flow a
  pub taken : (b : ℕ) → b < colds → heat_at Cold transfers b ≡ inflow links flow (hots + b)
