use Rattle.fractions.proofs.Limits.{gives_none}
use Rattle.fractions.proofs.Products.{zero_from_num}
use Rattle.fractions.proofs.Words.{ints, over, w128}
use Rattle.std.proofs.Common.{SFits, arith, refl, rules}
use Rattle.fractions.proofs.fraction.Frac.over.Goals as goal

pub returns-then-num-eq0-clause-value : goal.returns-then-num-eq0-clause-value
returns-then-num-eq0-clause-value c some =
    let fits : SFits w128 c.num.result = search rules in
    absurd (some (zero_from_num c.args.other.now (omega (arith, ints))))

pub returns-in_err-times-clause-value : goal.returns-in_err-times-clause-value
unfolding over
returns-in_err-times-clause-value c some =
    rw (c.from_residual.ensures, ← c.terms.ensures, ← c.terms-2.ensures, ← c.reciprocal.ensures) (gives_none _ (c.in_err-times.ensures.beyond refl))

pub returns-clause-value : goal.returns-clause-value
unfolding over
returns-clause-value c some =
    rw (c.in_ok-times.ensures.product, c.reciprocal.ensures, c.terms.ensures, c.terms-2.ensures) at c.within_limits.ensures
