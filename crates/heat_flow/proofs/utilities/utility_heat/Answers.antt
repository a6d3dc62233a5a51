use Rattle.heat_flow.proofs.Words.{Transfer, heat_of_utility, int_sum_by-more, ints, pos, to_z-of_z, w128, ◌+ℤ◌}
use Rattle.std.proofs.Common.{FitsSigned, ap₂, arith, get_or, of_z, rules, sym, to_z, w64, ◌∙◌, ◌≡◌}
use Rattle.heat_flow.proofs.utilities.utility_heat.Goals as goal

abbrev no_transfer : Transfer
no_transfer = record { hot = 0; cold = 0; heat = pos 0 }

pub loop-transfer-preserved : goal.loop-transfer-preserved
loop-transfer-preserved c =
    let f = heat_of_utility c.args.index c.args.side c.args.parts.now in
    let i = c.loop-transfer.transfer-index in
    let ts = c.args.transfers.now in
    let total = to_z w128 c.loop-transfer.total-bits in
    let value = c.from-total.result in
    let heat_fits : FitsSigned w64 c.heat_of_utility.result = search rules in
    let heat : value ≡ c.heat_of_utility.result
    = c.from-total.ensures ∙ to_z-of_z w64 c.heat_of_utility.result heat_fits in
    let is : value ≡ f (get_or ts i no_transfer) = heat ∙ c.heat_of_utility.ensures in
    let next : to_z w128 (of_z w128 (total +ℤ to_z w128 (of_z w128 value))) ≡ total +ℤ value = omega (arith, ints) in (
      next ∙ ap₂ ◌+ℤ◌ c.loop-transfer.invariant.0 is
          ∙ sym (int_sum_by-more f ts i no_transfer c.loop-transfer-test.true),
      omega (arith, ints),
      omega (arith, ints),
    )
