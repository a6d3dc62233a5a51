use Rattle.flow_net.proofs.Words.{All, IsTreeArc, IsWalk, depth_at, is_in}
use Rattle.std.proofs.Common.{reverse, true, ◌≡◌}
use Rattle.flow_net.proofs.search.Search.path.Given as goal

abbrev pub decreases-loop-arc : goal.decreases-loop-arc
decreases-loop-arc l = depth_at l.self.labels.items l.node

abbrev pub invariant-loop-arc : goal.invariant-loop-arc
invariant-loop-arc l = record {
  settled : is_in l.self.settled.items l.node ≡ true;
  walk : IsWalk (reverse l.path.items) l.node l.problem.sink;
  arcs : All (IsTreeArc l.problem l.self) l.path.items;
}
