use Rattle.flow_net.proofs.Words.{IsLevelGraph}
use Rattle.std.proofs.Common.{length, ◌≤◌}
use Rattle.flow_net.proofs.level_graph.LevelGraph.reach.Given as goal

abbrev pub invariant-loop-residual : goal.invariant-loop-residual
invariant-loop-residual l =
    record {
      graph : IsLevelGraph l.problem l.self;
      no_fewer : length l.initial.self.entered.items ≤ length l.self.entered.items;
    }
