use Rattle.flow_net.proofs.Words.{IsLevelGraph}
use Rattle.std.proofs.Common.{length}
use Rattle.flow_net.proofs.level_graph.LevelGraph.clear.Given as goal

abbrev pub decreases-loop-node : goal.decreases-loop-node
decreases-loop-node l = length l.self.entered.items

abbrev pub invariant-loop-node : goal.invariant-loop-node
invariant-loop-node l = IsLevelGraph l.problem l.self
