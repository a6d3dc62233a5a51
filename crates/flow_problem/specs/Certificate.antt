-- What may be solved, and what proves an answer.
use Rattle.std.specs.Prelude.{◌≡◌, ◌==◌, ◌||◌, ℕ, ◌-◌, ◌<◌, ℤ, pos, ◌-ℤ◌, ◌≤ℤ◌, ◌<ℤ◌, List, length, slice_index_or, if◌then◌else◌, Option, None, Some}
use Rattle.flow_net.specs.declared.net.Link.{Link}
use Rattle.flow_net.specs.declared.net.Net.{Net}
use Rattle.flow_net.specs.Net.{link_at, flow_on, outflow, inflow, reduced_cost, cost_of, IsRouting, IsRoutable, AreProofOfLeast, IsWithinLimits, AreEnds, IsRoom, AreInitialPotentials}
use Rattle.flow_problem.specs.declared.problem.Problem.{Problem}

-- the conditions of `solve`
pub record IsSolvable (p : Problem) (potentials : List ℤ) : Type 0 where
  pub net : IsWithinLimits p.net
  pub ends : AreEnds p.net p.source p.sink
  pub amount : IsRoom p.amount
  pub start : AreInitialPotentials p.net potentials

-- no link with room has a reduced cost below 0
abbrev pub Fit : List Link → List ℤ → Type 0
Fit links potentials =
    (k : ℕ) → k < length links → pos 0 <ℤ (link_at links k).room → pos 0 ≤ℤ reduced_cost (link_at links k) potentials

-- the flow routes the amount, and the potentials prove that it costs least
pub record IsCertified (p : Problem) (flow potentials : List ℤ) : Type 0 where
  pub routing : IsRouting p.net p.source p.sink p.amount flow
  pub proof : AreProofOfLeast p.net.links flow potentials

-- what is found of a problem: what a routing of the amount costs, of which potentials prove that none costs less; or
-- nothing, and then there is none
abbrev pub IsFound : Problem → Option ℤ → Type 0
IsFound p (Some cost) =
    (flow : List ℤ) × (potentials : List ℤ) × IsCertified p flow potentials × (cost ≡ cost_of p.net.links flow)
IsFound p None = ¬ IsRoutable p.net p.source p.sink p.amount

-- the initial potential of node v: 10^6 at the source and the last node but one, -10^6 at the sink and the last node
abbrev pub start_at : Problem → ℕ → ℤ
start_at p v =
    if v == p.source || p.net.nodes - v == 2 then pos 1000000
    else (if v == p.sink || p.net.nodes - v == 1 then pos 0 -ℤ pos 1000000 else pos 0)

-- what leaves node v less what enters it, by a list of these
abbrev pub surplus_at : List ℤ → ℕ → ℤ
surplus_at surpluses v = slice_index_or surpluses v (pos 0)

-- what leaves each node less what enters it
pub record AreSurpluses (net : Net) (flow surpluses : List ℤ) : Type 0 where
  pub one_each : length surpluses ≡ net.nodes
  pub surplus : (v : ℕ) → v < net.nodes → surplus_at surpluses v ≡ outflow net.links flow v -ℤ inflow net.links flow v

-- what leaves a node less what enters it, where the amount is routed
abbrev pub due : Problem → ℕ → ℤ
due p v = if v == p.source then p.amount else (if v == p.sink then pos 0 -ℤ p.amount else pos 0)

abbrev pub AreBalanced : Problem → List ℤ → Type 0
AreBalanced p surpluses = (v : ℕ) → v < length surpluses → surplus_at surpluses v ≡ due p v

-- a link with flow left to add has a reduced cost of at least 0, and one with flow above 0 of at most 0
pub record IsProved (link : Link) (carried : ℤ) (potentials : List ℤ) : Type 0 where
  pub left_to_add : carried <ℤ link.room → pos 0 ≤ℤ reduced_cost link potentials
  pub flowing : pos 0 <ℤ carried → reduced_cost link potentials ≤ℤ pos 0

abbrev pub AreProved : List Link → List ℤ → List ℤ → Type 0
AreProved links flow potentials = (k : ℕ) → k < length links → IsProved (link_at links k) (flow_on flow k) potentials
