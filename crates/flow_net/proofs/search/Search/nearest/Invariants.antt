use Rattle.flow_net.proofs.Words.{HasQueue, entries_of}
use Rattle.std.proofs.Common.{length, ◌≡◌}
use Rattle.flow_net.proofs.search.Search.nearest.Given as goal

abbrev pub decreases-loop-node : goal.decreases-loop-node
decreases-loop-node l = length (entries_of l.self.queue)

abbrev pub invariant-loop-node : goal.invariant-loop-node
invariant-loop-node l = record {
  labels : l.self.labels ≡ l.initial.self.labels;
  settled : l.self.settled ≡ l.initial.self.settled;
  queue : HasQueue l.self;
}
