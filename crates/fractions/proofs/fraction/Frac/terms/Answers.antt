use Rattle.std.proofs.Common.{SFits, ap, rules, unsigned_abs, ◌∙◌}
use Rattle.fractions.proofs.Words.{to_z-of_z, w128}
use Rattle.fractions.proofs.fraction.Frac.terms.Goals as goal

pub invariant_of-result : goal.invariant_of-result
invariant_of-result c = let fits : SFits w128 c.self.inside.num = search rules in
    let size = c.unsigned_abs.ensures.value ∙ ap unsigned_abs (to_z-of_z w128 c.self.inside.num fits) in
    rw (size, c.from.ensures) (record { positive = c.self.invariant.positive; lowest = c.self.invariant.lowest })
