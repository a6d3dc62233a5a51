-- Routings of an amount through a net, potentials that prove one to cost least, cuts that show that there is none, and
-- the limits.
use Rattle.std.specs.Prelude.{◌≡◌, ◌==◌, ℕ, ◌+◌, ◌*◌, ◌<◌, ◌≤◌, max, ℤ, pos, ◌+ℤ◌, ◌-ℤ◌, ◌*ℤ◌, ◌<ℤ◌, ◌≤ℤ◌, ◌≢◌, Bool, true, false, not, ◌&&◌, List, [], ◌∷◌, length, slice_index_or, if◌then◌else◌}
use Rattle.std.specs.Int.RustNames.{unsigned_abs}
use Rattle.flow_net.specs.declared.limits.TheConstants.{MOST_NODES, MOST_LINKS, MOST_ROOM, MOST_COST, MOST_INITIAL_POTENTIAL}
use Rattle.flow_net.specs.declared.net.Link.{Link}
use Rattle.flow_net.specs.declared.net.Net.{Net}
use Rattle.flow_net.specs.declared.net.Solved.{Solved}
use Rattle.flow_net.specs.declared.net.Solved.TheVariants.{Routed, Blocked}
use Rattle.flow_net.specs.Sum.{sum_below}

-- link k of a list, the flow on link k, the potential of node v, and whether node v is in a set
abbrev pub link_at : List Link → ℕ → Link
link_at links k = slice_index_or links k (record { from = 0; to = 0; room = pos 0; cost = pos 0 })

abbrev pub flow_on : List ℤ → ℕ → ℤ
flow_on flow k = slice_index_or flow k (pos 0)

abbrev pub potential_at : List ℤ → ℕ → ℤ
potential_at potentials v = slice_index_or potentials v (pos 0)

abbrev pub is_in : List Bool → ℕ → Bool
is_in set v = slice_index_or set v false

-- what the links that leave node v carry, and what those that enter it carry
abbrev pub outflow : List Link → List ℤ → ℕ → ℤ
outflow links flow v = sum_below (length links) (λ k. if (link_at links k).from == v then flow_on flow k else pos 0)

abbrev pub inflow : List Link → List ℤ → ℕ → ℤ
inflow links flow v = sum_below (length links) (λ k. if (link_at links k).to == v then flow_on flow k else pos 0)

-- each link carries from 0 to its room
pub record IsWithinRooms (links : List Link) (flow : List ℤ) : Type 0 where
  pub one_each : length flow ≡ length links
  pub not_negative : (k : ℕ) → k < length links → pos 0 ≤ℤ flow_on flow k
  pub upto_room : (k : ℕ) → k < length links → flow_on flow k ≤ℤ (link_at links k).room

-- each link carries from 0 to its room, and at each node but source and sink what enters is what
-- leaves; the source gives the amount more than it takes, and the sink takes the amount more than it gives
pub record IsRouting (net : Net) (source sink : ℕ) (amount : ℤ) (flow : List ℤ) : Type 0 where
  pub rooms : IsWithinRooms net.links flow
  pub balances : (v : ℕ) → v < net.nodes → v ≢ source → v ≢ sink → inflow net.links flow v ≡ outflow net.links flow v
  pub source_gives : outflow net.links flow source ≡ inflow net.links flow source +ℤ amount
  pub sink_takes : inflow net.links flow sink ≡ outflow net.links flow sink +ℤ amount

-- what a flow costs
abbrev pub cost_of : List Link → List ℤ → ℤ
cost_of links flow = sum_below (length links) (λ k. (link_at links k).cost *ℤ flow_on flow k)

-- a routing of the amount such that none costs less
pub record IsLeastRouting (net : Net) (source sink : ℕ) (amount : ℤ) (flow : List ℤ) : Type 0 where
  pub routing : IsRouting net source sink amount flow
  pub least : (other : List ℤ) → IsRouting net source sink amount other
      → cost_of net.links flow ≤ℤ cost_of net.links other

-- the cost of a link with the potential of its first node, less that of its second
abbrev pub reduced_cost : Link → List ℤ → ℤ
reduced_cost link potentials = (link.cost +ℤ potential_at potentials link.from) -ℤ potential_at potentials link.to

-- potentials that prove a flow to cost least: a link with flow left to add has reduced cost at least 0,
-- and a link with flow above 0 has reduced cost at most 0
pub record AreProofOfLeast (links : List Link) (flow potentials : List ℤ) : Type 0 where
  pub left_to_add : (k : ℕ) → k < length links → flow_on flow k <ℤ (link_at links k).room
      → pos 0 ≤ℤ reduced_cost (link_at links k) potentials
  pub flowing : (k : ℕ) → k < length links → pos 0 <ℤ flow_on flow k
      → reduced_cost (link_at links k) potentials ≤ℤ pos 0

-- the greatest absolute value of f over a list, and 0 for none
abbrev pub greatest_size : {X : Type 0} → (X → ℤ) → List X → ℕ
greatest_size f [] = 0
greatest_size f (x ∷ xs) = max (unsigned_abs (f x)) (greatest_size f xs)

-- the greatest cost of the net, without its sign
abbrev pub largest_cost : Net → ℕ
largest_cost net = greatest_size (λ l. l.cost) net.links

-- how large a potential may be: three times the greatest absolute initial potential, plus the number of nodes
-- times the greatest absolute cost
abbrev pub potential_bound : Net → List ℤ → ℕ
potential_bound net start = 3 * greatest_size (λ s. s) start + net.nodes * largest_cost net

-- one potential for each node, within that bound
pub record AreBounded (net : Net) (start potentials : List ℤ) : Type 0 where
  pub one_each : length potentials ≡ net.nodes
  pub bounded : (v : ℕ) → v < net.nodes → unsigned_abs (potential_at potentials v) ≤ potential_bound net start

-- whether a link leaves a set
abbrev pub leaves : List Bool → Link → Bool
leaves set link = is_in set link.from && not (is_in set link.to)

-- a cut, that is a set with the source and without the sink, whose leaving rooms add up to less than the amount
pub record IsCutBelow (net : Net) (source sink : ℕ) (amount : ℤ) (set : List Bool) : Type 0 where
  pub one_each : length set ≡ net.nodes
  pub source_in : is_in set source ≡ true
  pub sink_out : is_in set sink ≡ false
  pub short : sum_below (length net.links) (λ k. if leaves set (link_at net.links k) then (link_at net.links k).room else pos 0) <ℤ amount

-- p of the flow and the potentials where the amount is routed, and p of the set where it is not
abbrev pub IfRouted : Solved → (List ℤ → List ℤ → Type 0) → Type 0
IfRouted (Routed flow potentials) p = p flow potentials
IfRouted (Blocked reached) p = Unit {0}

abbrev pub IfBlocked : Solved → (List Bool → Type 0) → Type 0
IfBlocked (Routed flow potentials) p = Unit {0}
IfBlocked (Blocked reached) p = p reached

-- the amount can be routed
abbrev pub IsRoutable : Net → ℕ → ℕ → ℤ → Type 0
IsRoutable net source sink amount = (flow : List ℤ) × IsRouting net source sink amount flow

-- a room of a link, or an amount
pub record IsRoom (z : ℤ) : Type 0 where
  pub from : pos 0 ≤ℤ z
  pub upto : z ≤ℤ MOST_ROOM

-- a cost of a link
abbrev pub IsCost : ℤ → Type 0
IsCost z = unsigned_abs z ≤ MOST_COST

-- an initial potential
abbrev pub IsInitialPotential : ℤ → Type 0
IsInitialPotential z = unsigned_abs z ≤ MOST_INITIAL_POTENTIAL

-- a link between two of n nodes, with a room and a cost within the limits
pub record IsLinkWithin (n : ℕ) (link : Link) : Type 0 where
  pub from_in : link.from < n
  pub to_in : link.to < n
  pub room : IsRoom link.room
  pub cost : IsCost link.cost

-- a net within the limits
pub record IsWithinLimits (net : Net) : Type 0 where
  pub few_nodes : net.nodes ≤ MOST_NODES
  pub few_links : length net.links ≤ MOST_LINKS
  pub links : (k : ℕ) → k < length net.links → IsLinkWithin net.nodes (link_at net.links k)

-- source and sink are two nodes of the net
pub record AreEnds (net : Net) (source sink : ℕ) : Type 0 where
  pub source_in : source < net.nodes
  pub sink_in : sink < net.nodes
  pub apart : source ≢ sink

-- one initial potential for each node, at which no link with room has a reduced cost below 0
pub record AreInitialPotentials (net : Net) (start : List ℤ) : Type 0 where
  pub one_each : length start ≡ net.nodes
  pub within : (v : ℕ) → v < net.nodes → IsInitialPotential (potential_at start v)
  pub fits : (k : ℕ) → k < length net.links → pos 0 <ℤ (link_at net.links k).room
      → pos 0 ≤ℤ reduced_cost (link_at net.links k) start
