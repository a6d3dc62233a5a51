use Rattle.flow_net.proofs.Words.{IsResidual, arc_numbered, link_at, residual_at}
use Rattle.std.proofs.Common.{length, pos, ℕ, ◌<◌, ◌≡◌}
use Rattle.flow_net.proofs.routing.residuals_of.Given as goal

abbrev pub invariant-loop-arc : goal.invariant-loop-arc
invariant-loop-arc l = record {
  one_each : length l.residuals.items ≡ l.arc-index;
  each : (j : ℕ) → j < l.arc-index
      → IsResidual (link_at l.problem.net.now.links (arc_numbered l.arcs j).link) (pos 0)
      (arc_numbered l.arcs j).forward
      (residual_at l.residuals.items j);
}
