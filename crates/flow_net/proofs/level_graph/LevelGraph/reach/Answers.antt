use Rattle.flow_net.proofs.AdjacencyLemmas.{arcs_at-arcs}
use Rattle.flow_net.proofs.ArcLemmas.{arc-nodes}
use Rattle.flow_net.proofs.SentFlow.{no_arc}
use Rattle.flow_net.proofs.StandingLemmas.{IsPriced-between}
use Rattle.flow_net.proofs.level_graph.LevelGraph.reach.Goals.{Then-residual, else-residual, then-residual+then-not-has_level+then-cost_along-eq0+in_ok-enter}
use Rattle.flow_net.proofs.Words.{AreResiduals, IsLevelGraph, IsPricedBetween, IsStanding, Problem, Residual, Routing, arc_numbered, arcs_at, residual_at}
use Rattle.std.proofs.Common.{List, arith, length, subst, sym, ℕ, ◌<◌, ◌≤◌}
use Rattle.flow_net.proofs.level_graph.LevelGraph.reach.Goals as goal

-- a residual arc from a node leads to a node, at a cost within the limits
record IsGiven (p : Problem) (r : Routing) (v : ℕ) (w : Residual) : Type 0 where
  head_in : w.head < p.net.now.nodes
  priced : IsPricedBetween r.potentials.items v w.head w.cost

given : (p : Problem) (r : Routing) → IsStanding p r → (v : ℕ) → v < p.net.now.nodes → (residuals : List Residual)
    → AreResiduals p.net.now.links r.flow.items (arcs_at p.adjacency v) residuals → (i : ℕ) → i < length residuals
    → IsGiven p r v (residual_at residuals i)
given p r standing v node residuals are i within =
    let less : i < length (arcs_at p.adjacency v) = omega (arith, within, are.one_each) in
    let residual = are.each i less in
    let problem = standing.problem in
    let a = arc_numbered (arcs_at p.adjacency v) i in
    let arc = arcs_at-arcs p.net.now.nodes p.net.now.links p.adjacency problem.adjacency v node i no_arc less in
    let nodes = arc-nodes p.net.now problem.net a arc.0 in record {
      head_in = omega (arith, residual.head, nodes.1);
      priced =
          IsPriced-between p r standing a arc.0 v (residual_at residuals i).head
          (residual_at residuals i).cost arc.1 residual.head residual.cost;
    }

residual : (c : Then-residual)
    → IsGiven c.args.problem.now c.args.routing.now c.args.node
    (residual_at c.residuals_from-residual-items.result.now c.loop-residual.residual-index)
residual c =
    given c.args.problem.now c.args.routing.now c.requires.standing c.args.node c.requires.node
    c.residuals_from-residual-items.result.now c.residuals_from-residual-items.ensures c.loop-residual.residual-index
    c.loop-residual-test.true

pub cost_along-requires : goal.cost_along-requires
cost_along-requires c = (residual (goal.at.cost_along-requires c).Then-residual).priced

pub has_level-requires : goal.has_level-requires
has_level-requires c =
    let node = (residual (goal.at.has_level-requires c).Then-residual).head_in in
    omega (arith, node, c.loop-residual.invariant.graph.one_level_each)

pub enter-requires-clause-node : goal.enter-requires-clause-node
enter-requires-clause-node c = (residual (goal.at.enter-requires-clause-node c).Then-residual).head_in

pub loop-residual-preserved : goal.loop-residual-preserved
loop-residual-preserved c =
    let inv = c.loop-residual.invariant in
    let before = inv.no_fewer in
    let count = length c.args.self.now.entered.items in
    elim c.if-residual.branch [
      | then-residual+then-not-has_level+then-cost_along-eq0+in_ok-enter w ↦ record {
        graph = subst (IsLevelGraph c.args.problem.now) (sym w.self-is) w.in_ok-enter.ensures.graph;
        no_fewer =
            subst (λ g. count ≤ length g.entered.items) (sym w.self-is)
            (omega (arith, before, w.in_ok-enter.ensures.one_more));
      }
      | else-residual w ↦ record {
        graph = subst (IsLevelGraph c.args.problem.now) (sym w.self-is) inv.graph;
        no_fewer = subst (λ g. count ≤ length g.entered.items) (sym w.self-is) before;
      }
    ]
