use Rattle.fractions.proofs.Limits.{size-whole}
use Rattle.fractions.proofs.Ratios.{ratio-one}
use Rattle.fractions.proofs.Words.{IsLowest-one, to_z-of_z, w128, w64}
use Rattle.std.proofs.Common.{arith, rules}
use Rattle.fractions.proofs.fraction.Frac.whole.Goals as goal

pub invariant_of-result : goal.invariant_of-result
invariant_of-result c =
    rw (to_z-of_z w128 c.from.result (search rules), c.from.ensures, to_z-of_z w64 c.args.n c.ranges.n) (record {
      positive = omega arith;
      lowest = IsLowest-one _;
      den_small = omega arith;
      num_small = omega (arith, size-whole c.args.n c.ranges.n);
    })

pub returns : goal.returns
returns c =
    rw (to_z-of_z w128 c.from.result (search rules), c.from.ensures, to_z-of_z w64 c.args.n c.ranges.n) (ratio-one c.args.n)
