use Rattle.heat_flow.proofs.Words.{IsWithin, clamps, ints, most_excess, to_z-of_z}
use Rattle.std.proofs.Common.{arith, of_z, to_z, w64}
use Rattle.heat_flow.proofs.prices.least_product.Goals as goal

pub returns-clause-range : goal.returns-clause-range
returns-clause-range c =
    let price : IsWithin most_excess (to_z w64 (of_z w64 c.args.price))
    = rw (to_z-of_z w64 c.args.price c.ranges.price) c.requires.price in
    let first = c.product.ensures.range most_excess price in
    let second = c.product-2.ensures.range most_excess price in
    omega (arith, ints, clamps)
