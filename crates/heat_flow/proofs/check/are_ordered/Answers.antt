use Rattle.heat_flow.proofs.Blanks.{no_transfer}
use Rattle.heat_flow.proofs.CheckLemmas.{AllPairsBelow-more, precedes-trans}
use Rattle.heat_flow.proofs.Words.{get_or_default, precedes}
use Rattle.std.proofs.Common.{arith, refl, subst₂, ◌-◌}
use Rattle.heat_flow.proofs.check.are_ordered.Goals as goal

pub loop-i-preserved : goal.loop-i-preserved
loop-i-preserved c =
    let ts = c.args.transfers.now in
    let i = c.loop-i.i in
    let from = c.loop-i.auto.i in
    let within = c.loop-i-test.true in
    let next = c.if-not-precedes.ensures.0 refl in
    AllPairsBelow-more precedes precedes-trans ts i from c.loop-i.invariant
    (λ d. subst₂ precedes (get_or_default ts (i - 1) no_transfer d (omega arith)) (get_or_default ts i no_transfer d within) next)
