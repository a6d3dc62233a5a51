use Rattle.flow_net.proofs.LevelPaths.{IsStep, level_count}
use Rattle.flow_net.proofs.Words.{All, IsLevelGraph, IsWalk, height_at}
use Rattle.std.proofs.Common.{reverse, ◌*◌, ◌+◌, ◌<◌}
use Rattle.flow_net.proofs.level_graph.LevelGraph.find_path.Given as goal

abbrev pub decreases-loop-node : goal.decreases-loop-node
decreases-loop-node l =
    (l.problem.net.now.nodes + 1) * level_count l.self.levels.items + height_at l.self.levels.items l.node

abbrev pub invariant-loop-node : goal.invariant-loop-node
invariant-loop-node l = record {
  graph : IsLevelGraph l.problem l.self;
  node_in : l.node < l.problem.net.now.nodes;
  walk : IsWalk (reverse l.path.items) l.node l.problem.sink;
  steps : All (IsStep l.problem l.routing l.self.levels.items) l.path.items;
}
