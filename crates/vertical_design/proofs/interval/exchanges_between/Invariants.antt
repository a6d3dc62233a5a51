use Rattle.std.proofs.Common.{◌≡◌}
use Rattle.vertical_design.proofs.Words.{exchanges_at, flat_map, range_with_len}
use Rattle.vertical_design.proofs.interval.exchanges_between.Given as goal

abbrev pub invariant-loop-number : goal.invariant-loop-number
invariant-loop-number l = l.exchanges.items ≡ flat_map (exchanges_at l.hot l.cold l.cuts) (range_with_len 0 l.number)
