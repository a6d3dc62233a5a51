use Rattle.flow_net.proofs.Words.{IsLevelGraph}
use Rattle.flow_net.proofs.level_graph.LevelGraph.rebuild.Given as goal

abbrev pub invariant-loop-level : goal.invariant-loop-level
invariant-loop-level l = IsLevelGraph l.problem l.self
