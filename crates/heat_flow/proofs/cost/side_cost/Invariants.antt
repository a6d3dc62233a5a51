use Rattle.heat_flow.proofs.CostLemmas.{part_price}
use Rattle.heat_flow.proofs.LoopSums.{SumSoFar}
use Rattle.heat_flow.proofs.Words.{MOST_HEAT, MOST_PRICE, part_index, ◌*ℤ◌}
use Rattle.heat_flow.proofs.cost.side_cost.Given as goal

abbrev pub invariant-loop-transfer : goal.invariant-loop-transfer
invariant-loop-transfer l =
    SumSoFar (λ i t. part_price l.parts (part_index l.side t) *ℤ t.heat) (MOST_PRICE *ℤ MOST_HEAT) l.transfers l.transfer-index l.total
