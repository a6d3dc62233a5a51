use Rattle.heat_flow.proofs.LoopSums.{SumSoFar}
use Rattle.heat_flow.proofs.Words.{excess_price, least_product, most_part_value, price_at}
use Rattle.heat_flow.proofs.prices.side_value.Given as goal

abbrev pub invariant-loop-index : goal.invariant-loop-index
invariant-loop-index l =
    SumSoFar (λ i p. least_product (excess_price l.side p.price (price_at l.prices i)) p.least p.most) most_part_value l.parts l.index l.total
