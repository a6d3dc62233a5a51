use Rattle.flow_net.proofs.Words.{IsLevelGraph, IsStanding, unsigned_abs}
use Rattle.std.proofs.Common.{length, ◌-ℤ◌, ◌≡◌}
use Rattle.flow_net.proofs.least_cost.solve.Given as goal

abbrev pub decreases-loop-routing : goal.decreases-loop-routing
decreases-loop-routing l = unsigned_abs (l.amount -ℤ l.routing.routed)

abbrev pub invariant-loop-routing : goal.invariant-loop-routing
invariant-loop-routing l = record {
  standing : IsStanding l.problem l.routing;
  graph : IsLevelGraph l.problem l.graph;
  labels : length l.search.labels.items ≡ l.problem.net.now.nodes;
}
