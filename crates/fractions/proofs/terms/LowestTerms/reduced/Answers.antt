use Rattle.fractions.proofs.InLowestTerms.{reduced_by}
use Rattle.std.proofs.Common.{ap, unsigned_abs, ◌∙◌}
use Rattle.fractions.proofs.Words.{to_z-of_z, w128}
use Rattle.fractions.proofs.terms.LowestTerms.reduced.Goals as goal

pub invariant_of-result : goal.invariant_of-result
invariant_of-result c =
    let size = c.unsigned_abs-size.ensures.value ∙ ap unsigned_abs (to_z-of_z w128 c.args.num c.ranges.num) in
    rw size (reduced_by c.args.num c.args.den c.gcd-common.result c.requires (rw size at c.gcd-common.ensures.divisor)).terms

pub returns : goal.returns
returns c =
    let num = to_z-of_z w128 c.args.num c.ranges.num in
    let size = c.unsigned_abs-size.ensures.value ∙ ap unsigned_abs num in
    rw (num, size) (reduced_by c.args.num c.args.den c.gcd-common.result c.requires (rw size at c.gcd-common.ensures.divisor)).same
