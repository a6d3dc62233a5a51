use Rattle.heat_flow.proofs.Blanks.{blank, no_transfer}
use Rattle.heat_flow.proofs.CostLemmas.{part_price, side_cost-transfers}
use Rattle.heat_flow.proofs.LoopSums.{SumSoFar-more}
use Rattle.heat_flow.proofs.Words.{IsWithin, MOST_HEAT, MOST_PRICE, Transfer, int_sum_from, int_sum_from-by, ints, part_index, take_all, to_z-of_z, w128, ◌*ℤ◌}
use Rattle.std.proofs.Common.{FitsSigned, ap, arith, get_or, length, of_z, rules, to_z, w64, ◌<◌, ◌∙◌, ◌≡◌}
use Rattle.heat_flow.proofs.cost.side_cost.Goals as goal

cost_range : (c : goal.After-product-total) → IsWithin (MOST_PRICE *ℤ MOST_HEAT) c.product-total.result
cost_range c =
    let index = c.part_index.result in
    let room : index < length c.args.parts.now =
    omega (arith, c.part_index.ensures, c.requires.indexes c.loop-transfer.transfer-index no_transfer c.loop-transfer-test.true) in
    let bound = c.requires.bounded index blank room in
    let fits : FitsSigned w64 (get_or c.args.parts.now index blank).price = search rules in
    let price : IsWithin MOST_PRICE (to_z w64 (of_z w64 (get_or c.args.parts.now index blank).price))
    = omega (arith, ints) in
    c.product-total.ensures.range MOST_PRICE price

pub overflow_add-total : goal.overflow_add-total
overflow_add-total c = let cost = cost_range c in omega (arith, ints)

pub loop-transfer-preserved : goal.loop-transfer-preserved
loop-transfer-preserved c =
    let i = c.loop-transfer.transfer-index in
    let parts = c.args.parts.now in
    let t = get_or c.args.transfers.now i no_transfer in
    let price = (get_or parts (part_index c.args.side t) blank).price in
    let price_fits : FitsSigned w64 price = search rules in
    let heat_fits : FitsSigned w64 t.heat = search rules in
    let is : c.product-total.result ≡ price *ℤ t.heat =
    rw (c.part_index.ensures, to_z-of_z w64 price price_fits, to_z-of_z w64 t.heat heat_fits) at c.product-total.ensures.value in
    SumSoFar-more (λ i u. part_price parts (part_index c.args.side u) *ℤ u.heat) (MOST_PRICE *ℤ MOST_HEAT) c.args.transfers.now i no_transfer
    (to_z w128 c.loop-transfer.total-bits) c.product-total.result
    c.loop-transfer-test.true (omega (arith, ints)) c.loop-transfer.invariant is (cost_range c)

pub returns-clause-value : goal.returns-clause-value
returns-clause-value c =
    let ts = c.args.transfers.now in
    let cost = λ (t : Transfer). part_price c.args.parts.now (part_index c.args.side t) *ℤ t.heat in
    c.loop-transfer.invariant.sum
    ∙ ap (int_sum_from (λ i t. cost t) 0) (take_all c.loop-transfer.transfer-index ts c.loop-transfer-test.false)
    ∙ int_sum_from-by cost 0 ts ∙ side_cost-transfers c.args.side c.args.parts.now ts c.requires.indexes
