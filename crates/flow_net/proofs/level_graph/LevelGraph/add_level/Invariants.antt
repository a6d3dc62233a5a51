use Rattle.flow_net.proofs.Words.{IsLevelGraph}
use Rattle.std.proofs.Common.{length, ◌≤◌}
use Rattle.flow_net.proofs.level_graph.LevelGraph.add_level.Given as goal

abbrev pub invariant-loop-index : goal.invariant-loop-index
invariant-loop-index l =
    record {
      graph : IsLevelGraph l.problem l.self;
      no_fewer : length l.initial.self.entered.items ≤ length l.self.entered.items;
    }
