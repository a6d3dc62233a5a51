use Rattle.flow_net.proofs.Words.{Improves, IsClosedAt, IsSearch, arc_by_index}
use Rattle.std.proofs.Common.{ℕ, ◌<◌, ◌≤◌}
use Rattle.flow_net.proofs.search.Search.scan.Given as goal

abbrev pub invariant-loop-index : goal.invariant-loop-index
invariant-loop-index l = record {
  search : IsSearch l.problem l.routing l.self;
  improves : Improves l.initial.self l.self;
  closed : (k : ℕ) → l.first ≤ k → k < l.index → IsClosedAt l.problem l.routing l.self (arc_by_index l.problem k);
}
