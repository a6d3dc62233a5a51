-- One more end: it is not tight, or the first tight one, or one of two.
use Rattle.problem_table.proofs.DeficitLemmas.{FindsHighestTight-first, FindsHighestTight-higher, FindsHighestTight-skip}
use Rattle.problem_table.proofs.Words.{FindsHighestTight, false≢true, int_max, to_z-of_z}
use Rattle.std.proofs.Common.{FitsSigned, ap₂, rules, subst, sym, w32, ◌∙◌}
use Rattle.problem_table.proofs.reference.higher_tight.Goals as goal

pub returns-then-not-is_tight : goal.returns-then-not-is_tight
returns-then-not-is_tight c =
    let back = to_z-of_z w32 c.args.end c.ranges.end in
    let tight = rw back at c.is_tight.ensures in
    λ ends found. FindsHighestTight-skip c.args.streams.now ends c.args.end c.args.place (λ at. false≢true (sym c.if-not-is_tight.true ∙ tight.1 at)) found

pub returns-in-None : goal.returns-in-None
returns-in-None c =
    let back = to_z-of_z w32 c.args.end c.ranges.end in
    let tight = rw back at c.is_tight.ensures in
    λ ends found. rw back (FindsHighestTight-first c.args.streams.now ends c.args.end (tight.0 c.if-not-is_tight.false)
    (subst (FindsHighestTight c.args.streams.now ends) c.in-None.is found))

pub returns-in-Some : goal.returns-in-Some
returns-in-Some c =
    let back = to_z-of_z w32 c.args.end c.ranges.end in
    let tight = rw back at c.is_tight.ensures in
    let found_fits : FitsSigned w32 c.in-Some.found = search rules in
    let max_fits : FitsSigned w32 c.max.result = search rules in
    let is = to_z-of_z w32 c.max.result max_fits ∙ c.max.ensures.value
    ∙ ap₂ int_max (to_z-of_z w32 c.in-Some.found found_fits) back in
    λ ends found. FindsHighestTight-higher c.args.streams.now ends c.args.end c.in-Some.found _ is (tight.0 c.if-not-is_tight.false)
    (subst (FindsHighestTight c.args.streams.now ends) c.in-Some.is found)
