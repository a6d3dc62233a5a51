use Rattle.fractions.proofs.InLowestTerms.{turned_over}
use Rattle.fractions.proofs.Words.{reciprocal}
use Rattle.std.proofs.Common.{ap, ◌∙◌}
use Rattle.fractions.proofs.terms.LowestTerms.reciprocal.Goals as goal

pub invariant_of-result : goal.invariant_of-result
invariant_of-result c =
    let terms = c.self.inside in
    (turned_over terms.negative terms.size terms.den c.self.invariant (λ none. c.requires (rw c.self.view_is at none))).terms

pub returns : goal.returns
returns c = let terms = c.self.inside in
    (turned_over terms.negative terms.size terms.den c.self.invariant (λ none. c.requires (rw c.self.view_is at none))).same
    ∙ ap reciprocal c.self.view_is
