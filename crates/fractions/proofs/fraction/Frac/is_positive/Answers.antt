use Rattle.fractions.proofs.Comparisons.{is_below-ranks, is_below-zero}
use Rattle.fractions.proofs.Words.{rational_zero, to_z-of_z, w128}
use Rattle.std.proofs.Common.{SFits, ap, int_lt, pos, rules, sym, ◌∙◌}
use Rattle.fractions.proofs.fraction.Frac.is_positive.Goals as goal

pub returns-clause-value : goal.returns-clause-value
returns-clause-value c = let fits : SFits w128 c.num.result = search rules in
    ap (int_lt (pos 0)) (to_z-of_z w128 c.num.result fits ∙ c.num.ensures.value) ∙ sym (is_below-zero c.args.self.now)

pub returns-clause-ranks : goal.returns-clause-ranks
returns-clause-ranks c = rw (returns-clause-value c) (is_below-ranks rational_zero c.args.self.now)
