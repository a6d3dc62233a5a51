use Rattle.fractions.proofs.InLowestTerms.{fields-terms, terms-outside, terms-within}
use Rattle.fractions.proofs.Limits.{gives_none, gives_some}
use Rattle.std.proofs.Common.{arith, rules}
use Rattle.fractions.proofs.Words.{to_z-of_z, w128}
use Rattle.fractions.proofs.fraction.Frac.within_limits.Goals as goal

pub returns-then-terms-gt-NUM_MAX : goal.returns-then-terms-gt-NUM_MAX
returns-then-terms-gt-NUM_MAX c = let terms = c.terms.inside in
    gives_none _
    (terms-outside terms.negative terms.size terms.den _ c.terms.invariant c.terms.view_is (λ num den. omega (arith, c.then-terms-gt-NUM_MAX.either)))

pub invariant_of-result : goal.invariant_of-result
invariant_of-result c = rw (to_z-of_z w128 c.with_sign.result (search rules), c.with_sign.ensures)
    (fields-terms c.terms.inside.negative c.terms.inside.size c.terms.inside.den c.terms.invariant (omega arith) (omega arith))

pub returns : goal.returns
returns c = let terms = c.terms.inside in
    rw (to_z-of_z w128 c.with_sign.result (search rules), c.with_sign.ensures)
    (gives_some _ _ (terms-within terms.negative terms.size terms.den _ c.terms.invariant c.terms.view_is (omega arith) (omega arith)) c.terms.view_is)
