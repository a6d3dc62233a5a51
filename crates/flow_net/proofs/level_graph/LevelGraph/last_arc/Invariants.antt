use Rattle.std.proofs.Common.{length, ◌≡◌}
use Rattle.flow_net.proofs.level_graph.LevelGraph.last_arc.Given as goal

abbrev pub invariant-loop-index : goal.invariant-loop-index
invariant-loop-index l = record {
  levels : l.self.levels ≡ l.initial.self.levels;
  entered : l.self.entered ≡ l.initial.self.entered;
  cursors : length l.self.cursors.items ≡ length l.initial.self.cursors.items;
}
