use Rattle.flow_problem.proofs.SumLemmas.{surplus_below}
use Rattle.flow_problem.proofs.Words.{surplus_at}
use Rattle.std.proofs.Common.{length, ℕ, ◌<◌, ◌≡◌}
use Rattle.flow_problem.proofs.answer.add_flow.Given as goal

abbrev pub invariant-loop-index : goal.invariant-loop-index
invariant-loop-index l = record {
  links : l.link-items ≡ l.net.links;
  one_each : length l.surpluses ≡ l.net.nodes;
  surplus : (v : ℕ) → v < l.net.nodes → surplus_at l.surpluses v ≡ surplus_below l.net.links l.flow l.index v;
}
