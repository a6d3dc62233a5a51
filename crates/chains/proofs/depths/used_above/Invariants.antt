use Rattle.chains.proofs.Words.{range_with_len, used_among}
use Rattle.std.proofs.Common.{map, ◌++◌, ◌≡◌}
use Rattle.chains.proofs.depths.used_above.Given as goal

abbrev pub invariant-loop-is_used : goal.invariant-loop-is_used
invariant-loop-is_used l = record {
  above : l.above.items ≡ map (used_among (l.hot ++ l.cold)) (range_with_len 0 l.is_used-index);
  count : l.count ≡ used_among (l.hot ++ l.cold) l.is_used-index;
}
