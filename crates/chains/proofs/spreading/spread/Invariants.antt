use Rattle.chains.proofs.Words.{AreOpen, IsUnderWay, left_in_all, unsigned_abs}
use Rattle.std.proofs.Common.{length, ◌*◌, ◌+◌, ◌≡◌}
use Rattle.chains.proofs.spreading.spread.Given as goal

abbrev pub decreases-loop-share : goal.decreases-loop-share
decreases-loop-share l = 2 * unsigned_abs (left_in_all l.open_ways.sorted.items) + length l.shares.items

abbrev pub invariant-loop-share : goal.invariant-loop-share
invariant-loop-share l = record {
  under_way : IsUnderWay (length l.parts.hot) (length l.parts.cold) l.chains.net l.flow l.shares.items
      l.arrived.items l.open_ways.sorted.items;
  are_open : AreOpen l.open_ways.sorted.items l.open_ways.next.items;
  one_each : length l.open_ways.next.items ≡ l.chains.net.nodes;
}
