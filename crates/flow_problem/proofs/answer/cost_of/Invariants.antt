use Rattle.flow_problem.proofs.Words.{flow_on, link_at, sum_below}
use Rattle.std.proofs.Common.{◌*ℤ◌, ◌≡◌}
use Rattle.flow_problem.proofs.answer.cost_of.Given as goal

abbrev pub invariant-loop-index : goal.invariant-loop-index
invariant-loop-index l = record {
  links : l.link-items ≡ l.net.links;
  cost : l.cost ≡ sum_below l.index (λ k. (link_at l.net.links k).cost *ℤ flow_on l.flow k);
}
