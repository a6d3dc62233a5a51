use Rattle.std.proofs.Common.{◌≡◌}
use Rattle.vertical_design.proofs.Words.{flat_map, range_with_len, sources_in}
use Rattle.vertical_design.proofs.interval.sources_between.Given as goal

abbrev pub invariant-loop-number : goal.invariant-loop-number
invariant-loop-number l = l.sources.items ≡ flat_map (λ n. sources_in l.bands) (range_with_len 0 l._number)
