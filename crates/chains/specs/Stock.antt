-- Heat on its way through an inner net.
use Rattle.std.specs.Prelude.{◌≡◌, ◌==◌, ℕ, ◌+◌, ◌<◌, ◌≤◌, ℤ, pos, ◌+ℤ◌, ◌-ℤ◌, ◌<ℤ◌, int_lt, List, [], ◌∷◌, ◌++◌, All, Contains, if◌then◌else◌}
use Rattle.sums.specs.Pairing.{cons_if}
use Rattle.sums.specs.Sum.{int_sum_by}
use Rattle.flow_net.specs.declared.net.Link.{Link}
use Rattle.flow_net.specs.declared.net.Net.{Net}
use Rattle.flow_net.specs.Net.{link_at, flow_on, inflow, outflow}
use Rattle.flow_net.specs.Sum.{sum_below}
use Rattle.chains.specs.declared.stock.Share.{Share}
use Rattle.chains.specs.declared.ways.Way.{Way}
use Rattle.chains.specs.Path.{LeadsTo}
use Rattle.chains.specs.Ways.{left_from, left_into, IsWay, IsCarried}

-- what the shares of hot part a add up to, and what those at node v do
abbrev pub held_of : List Share → ℕ → ℤ
held_of shares a = int_sum_by (λ s. if s.hot == a then s.heat else pos 0) shares

abbrev pub held_at : List Share → ℕ → ℤ
held_at shares v = int_sum_by (λ s. if s.node == v then s.heat else pos 0) shares

-- heat of a hot part at the end of a link that leaves it
pub record IsFirstShare (hots : ℕ) (links : List Link) (s : Share) : Type 0 where
  pub link : Link
  pub stands : Contains links link
  pub from_is : link.from ≡ s.hot
  pub to_is : link.to ≡ s.node
  pub hot_in : s.hot < hots
  pub positive : pos 0 <ℤ s.heat

-- what the first n links carry: those that leave hot parts as shares at their ends, the others as ways
pub record HaveSetOut (hots : ℕ) (links : List Link) (flow : List ℤ) (n : ℕ) (shares : List Share)
    (ways : List Way) : Type 0 where
  pub first_shares : All (IsFirstShare hots links) shares
  pub ways_stand : All (IsWay hots links) ways
  pub some_left : All (λ w. pos 0 <ℤ w.left) ways
  pub given : (a : ℕ) → a < hots
      → held_of shares a ≡ sum_below n (λ k. if (link_at links k).from == a then flow_on flow k else pos 0)
  pub goes_on : (v : ℕ) → hots ≤ v
      → left_from ways v ≡ sum_below n (λ k. if (link_at links k).from == v then flow_on flow k else pos 0)
  pub enters : (v : ℕ) → held_at shares v +ℤ left_into ways v
      ≡ sum_below n (λ k. if (link_at links k).to == v then flow_on flow k else pos 0)

-- heat of a hot part at a node to which a path leads from that part
pub record IsShare (hots : ℕ) (net : Net) (s : Share) : Type 0 where
  pub hot_in : s.hot < hots
  pub behind : hots ≤ s.node
  pub node_in : s.node < net.nodes
  pub positive : pos 0 <ℤ s.heat
  pub leads : LeadsTo net.links s.hot s.node

-- what a share leaves at its node, if anything, and what a way takes on
abbrev pub moved : Share → Way → List Share
moved s part =
    cons_if (int_lt part.left s.heat) (record s { heat = s.heat -ℤ part.left }) (record s { node = part.to; heat = part.left } ∷ [])

-- a share has gone on from its node along a way, as far as the way has heat to carry
pub record HasPassed (s : Share) (shares after : List Share) (ways ways_after : List Way) : Type 0 where
  pub part : Way
  pub carried : IsCarried ways ways_after s.node s.heat part
  pub is : after ≡ shares ++ moved s part

-- a part of a flow under way: no heat of a hot part is lost, and at each node behind the hot parts the heat there with
-- what still comes and what the flow takes off is what the flow brings with what still goes
pub record IsUnderWay (hots colds : ℕ) (net : Net) (flow : List ℤ) (moving there : List Share)
    (ways : List Way) : Type 0 where
  pub moving_shares : All (IsShare hots net) moving
  pub there_shares : All (IsShare hots net) there
  pub at_cold : All (λ s. s.node < (hots + colds)) there
  pub ways_stand : All (IsWay hots net.links) ways
  pub given : (a : ℕ) → a < hots → held_of moving a +ℤ held_of there a ≡ outflow net.links flow a
  pub balance : (v : ℕ) → hots ≤ v
      → (held_at moving v +ℤ held_at there v) +ℤ (left_into ways v +ℤ outflow net.links flow v)
      ≡ inflow net.links flow v +ℤ left_from ways v
