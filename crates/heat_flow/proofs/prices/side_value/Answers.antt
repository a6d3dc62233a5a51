use Rattle.heat_flow.proofs.Blanks.{blank}
use Rattle.heat_flow.proofs.LoopSums.{SumSoFar-more}
use Rattle.heat_flow.proofs.Words.{excess_price, ints, least_product, most_part_value, pos, price_at, to_z-of_z, w128}
use Rattle.std.proofs.Common.{FitsSigned, arith, get_or, rules, to_z, w64}
use Rattle.heat_flow.proofs.prices.side_value.Goals as goal

pub loop-index-preserved : goal.loop-index-preserved
loop-index-preserved c =
    let i = c.loop-index.index in
    let prices = c.args.prices.now in
    let price_fits : FitsSigned w64 (get_or prices i (pos 0)) = search rules in
    let is = rw (to_z-of_z w64 (get_or prices i (pos 0)) price_fits) at c.part_value-total.ensures.value in
    SumSoFar-more (λ a p. least_product (excess_price c.args.side p.price (price_at prices a)) p.least p.most) most_part_value c.args.parts.now i blank
    (to_z w128 c.loop-index.total-bits) c.part_value-total.result
    c.loop-index-test.true (omega (arith, ints)) c.loop-index.invariant is c.part_value-total.ensures.range
