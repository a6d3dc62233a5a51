use Rattle.std.proofs.Common.{◌≡◌}
use Rattle.transport.proofs.Words.{flat_map, range_with_len, row_links}
use Rattle.transport.proofs.pairs.pairs_of.Given as goal

abbrev pub invariant-loop-hot : goal.invariant-loop-hot
invariant-loop-hot l = l.links.items ≡ flat_map (row_links l.reach) (range_with_len 0 l.hot)
