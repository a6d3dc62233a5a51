use Rattle.fractions.proofs.Words.{IsBelow, MatchOrdering, rational_cmp, rational_ranks, to_z-of_z, w128}
use Rattle.std.proofs.Common.{SFits, rules, subst, sym, ◌≡◌}
use Rattle.fractions.proofs.fraction.Frac.compare.Goals as goal

compared : goal.returns-clause-value
unfolding rational_cmp
compared c =
    let one : SFits w128 c.cross.result = search rules in
    let two : SFits w128 c.cross-2.result = search rules in
    rw (c.cross.ensures.value, c.cross-2.ensures.value) at (simp to_z-of_z at c.cmp.ensures)

pub returns-clause-value : goal.returns-clause-value
returns-clause-value = compared

pub returns-clause-ranks : goal.returns-clause-ranks
returns-clause-ranks c =
    let a = c.args.self.now in
    let b = c.args.other.now in
    subst (λ r. MatchOrdering r (IsBelow a b) (a ≡ b) (IsBelow b a)) (sym (compared c)) (rational_ranks a b)
