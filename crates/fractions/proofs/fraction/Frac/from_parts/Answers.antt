use Rattle.fractions.proofs.Limits.{bounded-gives}
use Rattle.fractions.proofs.Words.{bounded_ratio, nat_tests, to_z-of_z, w128}
use Rattle.std.proofs.Common.{arith, refl, ◌≡◌}
use Rattle.fractions.proofs.fraction.Frac.from_parts.Goals as goal

pub returns-then-den-eq0-clause-bounded : goal.returns-then-den-eq0-clause-bounded
unfolding bounded_ratio
returns-then-den-eq0-clause-bounded c =
    let none : c.args.den ≡ 0 = grind (arith, nat_tests) in
    rw none refl

pub returns-clause-bounded : goal.returns-clause-bounded
returns-clause-bounded c =
    let gives = rw (c.reduced.ensures, to_z-of_z w128 c.args.num c.ranges.num) at c.within_limits.ensures in
    bounded-gives c.within_limits.result c.args.num c.args.den (grind (arith, nat_tests)) gives
