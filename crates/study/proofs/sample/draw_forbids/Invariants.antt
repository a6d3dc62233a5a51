use Rattle.std.proofs.Common.{map, ◌≡◌}
use Rattle.study.proofs.Words.{FORBID_CHANCE, draw, filter, pair_of, range_with_len, state_after, ◌==◌}
use Rattle.study.proofs.sample.draw_forbids.Given as goal

abbrev pub invariant-loop-index : goal.invariant-loop-index
invariant-loop-index l = record {
  forbids : l.forbids.items
      ≡ map (pair_of l.fn.count) (filter (λ i. draw l.fn.generator.state i FORBID_CHANCE == 0) (range_with_len 0 l.index));
  state : l.generator.state ≡ state_after l.fn.generator.state l.index;
}
