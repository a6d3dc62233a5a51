use Rattle.fractions.proofs.InLowestTerms.{product_by, terms-outside}
use Rattle.fractions.proofs.Words.{ap₂, times}
use Rattle.std.proofs.Common.{arith, ◌∙◌}
use Rattle.fractions.proofs.terms.LowestTerms.times.Goals as goal

pub returns-in_err-checked_mul-clause-beyond : goal.returns-in_err-checked_mul-clause-beyond
returns-in_err-checked_mul-clause-beyond c none =
    let a = c.self.inside in
    let b = c.other.inside in
    let product =
    product_by a.negative b.negative a.size a.den b.size b.den c.gcd-first.result c.gcd-second.result c.self.invariant c.other.invariant
    c.gcd-first.ensures.divisor c.gcd-second.ensures.divisor in
    terms-outside _ _ _ _ product.terms (product.same ∙ ap₂ times c.self.view_is c.other.view_is) (λ num den. c.in_err-checked_mul.ensures (omega arith))

pub returns-in_err-checked_mul-2-clause-beyond : goal.returns-in_err-checked_mul-2-clause-beyond
returns-in_err-checked_mul-2-clause-beyond c none =
    let a = c.self.inside in
    let b = c.other.inside in
    let product =
    product_by a.negative b.negative a.size a.den b.size b.den c.gcd-first.result c.gcd-second.result c.self.invariant c.other.invariant
    c.gcd-first.ensures.divisor c.gcd-second.ensures.divisor in
    terms-outside _ _ _ _ product.terms (product.same ∙ ap₂ times c.self.view_is c.other.view_is) (λ num den. c.in_err-checked_mul-2.ensures (omega arith))

pub invariant_of-result : goal.invariant_of-result
invariant_of-result c =
    let a = c.self.inside in
    let b = c.other.inside in
    rw (c.in_ok-checked_mul.ensures.1, c.in_ok-checked_mul-2.ensures.1)
    (product_by a.negative b.negative a.size a.den b.size b.den c.gcd-first.result c.gcd-second.result c.self.invariant c.other.invariant
    c.gcd-first.ensures.divisor c.gcd-second.ensures.divisor).terms

pub returns-clause-product : goal.returns-clause-product
returns-clause-product c =
    let a = c.self.inside in
    let b = c.other.inside in
    rw (c.in_ok-checked_mul.ensures.1, c.in_ok-checked_mul-2.ensures.1)
    ((product_by a.negative b.negative a.size a.den b.size b.den c.gcd-first.result c.gcd-second.result c.self.invariant c.other.invariant
    c.gcd-first.ensures.divisor c.gcd-second.ensures.divisor).same ∙ ap₂ times c.self.view_is c.other.view_is)
