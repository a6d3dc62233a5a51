use Rattle.heat_flow.proofs.RangeLemmas.{product_range}
use Rattle.heat_flow.proofs.Words.{IsWithin, MOST_HEAT, ints, most_excess, to_z-of_z, w128, ◌*ℤ◌}
use Rattle.std.proofs.Common.{FitsSigned, arith, of_z, subst, sym, to_z, ◌≡◌}
use Rattle.heat_flow.proofs.prices.product.Goals as goal

price_is : (c : goal.After-from-2) → to_z w128 (of_z w128 c.from.result) ≡ c.args.price
price_is c = omega (arith, ints)

heat_is : (c : goal.After-from-2) → to_z w128 (of_z w128 c.from-2.result) ≡ c.args.heat
heat_is c = omega (arith, ints)

fits : (c : goal.After-from-2) → FitsSigned w128 (c.args.price *ℤ c.args.heat)
fits c =
    let bound = product_range most_excess c.args.price c.args.heat c.requires.price c.requires.heat in
    omega (arith, ints)

pub overflow_mul-result : goal.overflow_mul-result
overflow_mul-result c = rw (price_is c, heat_is c) (fits c)

value : (c : goal.After-from-2)
    → to_z w128 (of_z w128 (to_z w128 (of_z w128 c.from.result) *ℤ to_z w128 (of_z w128 c.from-2.result)))
    ≡ c.args.price *ℤ c.args.heat
value c = rw (price_is c, heat_is c) (to_z-of_z w128 (c.args.price *ℤ c.args.heat) (fits c))

pub returns-clause-value : goal.returns-clause-value
returns-clause-value c = value c

pub returns-clause-range : goal.returns-clause-range
returns-clause-range c most h =
    subst (IsWithin (most *ℤ MOST_HEAT)) (sym (value c)) (product_range most c.args.price c.args.heat h c.requires.heat)
