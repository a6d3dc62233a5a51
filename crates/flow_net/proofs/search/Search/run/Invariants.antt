use Rattle.flow_net.proofs.Words.{Arc, IsArc, IsClosedAt, IsSearch, is_in}
use Rattle.std.proofs.Common.{count_by, false, not, true, ◌≡◌}
use Rattle.flow_net.proofs.search.Search.run.Given as goal

abbrev pub decreases-loop-node : goal.decreases-loop-node
decreases-loop-node l = count_by not l.self.settled.items

abbrev pub invariant-loop-node : goal.invariant-loop-node
invariant-loop-node l = record {
  search : IsSearch l.problem l.routing l.self;
  closed : (a : Arc) → IsArc l.problem.net.now.links a → is_in l.self.settled.items a.tail ≡ true
      → IsClosedAt l.problem l.routing l.self a;
  sink_out : is_in l.self.settled.items l.problem.sink ≡ false;
}
