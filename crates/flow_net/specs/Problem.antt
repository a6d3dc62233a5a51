-- What is to be solved, and what stands while a part of the amount is routed.
use Rattle.std.specs.Prelude.{◌≡◌, ℕ, ◌<◌, ◌≤◌, length, ℤ, pos, ◌-ℤ◌, ◌≤ℤ◌, ◌<ℤ◌, ◌⊎◌, List, All, Any}
use Rattle.flow_net.specs.declared.arc.Arc.{Arc}
use Rattle.flow_net.specs.declared.problem.Problem.{Problem}
use Rattle.flow_net.specs.declared.routing.Routing.{Routing}
use Rattle.flow_net.specs.declared.residual.Residual.{Residual}
use Rattle.flow_net.specs.Net.{potential_at, IsRouting, AreProofOfLeast, AreBounded, IsRoom, IsWithinLimits, AreEnds, AreInitialPotentials}
use Rattle.flow_net.specs.Arc.{IsArc, IsAdjacency}
use Rattle.flow_net.specs.Flow.{residual_of, reduced_cost_of, AreResiduals, IsWalk, AreApart}
use Rattle.flow_net.specs.Threads.{arc_numbered}

-- a net within the limits with its arcs, its ends, an amount and initial potentials
pub record IsProblem (p : Problem) : Type 0 where
  pub net : IsWithinLimits p.net.now
  pub adjacency : IsAdjacency p.net.now.nodes p.net.now.links p.adjacency
  pub ends : AreEnds p.net.now p.source p.sink
  pub amount : IsRoom p.amount
  pub start : AreInitialPotentials p.net.now p.start.now

-- the arc at an index
abbrev pub arc_by_index : Problem → ℕ → Arc
arc_by_index p k = arc_numbered p.adjacency.arcs.items k

-- the arcs at the indices from first up to end are those whose tail is node v
pub record IsRange (p : Problem) (v first end : ℕ) : Type 0 where
  pub within : end ≤ length p.adjacency.arcs.items
  pub tails : (k : ℕ) → first ≤ k → k < end → (arc_by_index p k).tail ≡ v
  pub complete : (a : Arc) → IsArc p.net.now.links a → a.tail ≡ v
      → (k : ℕ) × (first ≤ k) × (k < end) × (arc_by_index p k ≡ a)

-- a part of the amount is routed at least cost. The source's potential is its initial one, no potential
-- has fallen, and none has risen more than the sink's
pub record Stands (p : Problem) (flow potentials : List ℤ) (routed : ℤ) (residuals : List Residual) : Type 0 where
  pub problem : IsProblem p
  pub routed_from : pos 0 ≤ℤ routed
  pub routed_upto : routed ≤ℤ p.amount
  pub opened : AreResiduals p.net.now.links flow p.adjacency.arcs.items residuals
  pub routes : IsRouting p.net.now p.source p.sink routed flow
  pub proof : AreProofOfLeast p.net.now.links flow potentials
  pub bounded : AreBounded p.net.now p.start.now potentials
  pub at_source : potential_at potentials p.source ≡ potential_at p.start.now p.source
  pub risen : (v : ℕ) → v < p.net.now.nodes → potential_at p.start.now v ≤ℤ potential_at potentials v
  pub sink_most : (v : ℕ) → v < p.net.now.nodes
      → (potential_at potentials v -ℤ potential_at p.start.now v) ≤ℤ (potential_at potentials p.sink -ℤ potential_at p.start.now p.sink)

abbrev pub IsStanding : Problem → Routing → Type 0
IsStanding p r = Stands p r.flow.items r.potentials.items r.routed r.residuals.items

-- a residual arc: one that can carry more
pub record IsResidualArc (p : Problem) (r : Routing) (a : Arc) : Type 0 where
  pub arc : IsArc p.net.now.links a
  pub residual : pos 0 <ℤ residual_of p.net.now.links r.flow.items a

-- a residual arc without reduced cost
pub record IsFreeArc (p : Problem) (r : Routing) (a : Arc) : Type 0 where
  pub residual : IsResidualArc p r a
  pub free : reduced_cost_of r.potentials.items a ≡ pos 0

-- a path from the source to the sink along free arcs, no two along one link
pub record IsFreePath (p : Problem) (r : Routing) (path : List Arc) : Type 0 where
  pub walk : IsWalk path p.source p.sink
  pub arcs : All (IsFreeArc p r) path
  pub apart : AreApart path

-- the most that the arcs of a path can carry, of what is left to route
pub record IsBottleneck (p : Problem) (r : Routing) (path : List Arc) (amount : ℤ) : Type 0 where
  pub some : pos 0 <ℤ amount
  pub limited : amount ≤ℤ (p.amount -ℤ r.routed)
  pub residual : All (λ a. amount ≤ℤ residual_of p.net.now.links r.flow.items a) path
  pub reached : (amount ≡ p.amount -ℤ r.routed) ⊎ Any (λ a. residual_of p.net.now.links r.flow.items a ≡ amount) path
