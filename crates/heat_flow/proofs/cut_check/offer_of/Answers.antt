use Rattle.heat_flow.proofs.Blanks.{blank}
use Rattle.heat_flow.proofs.LoopSums.{SumSoFar-more}
use Rattle.heat_flow.proofs.Words.{MOST_HEAT, if◌then◌else◌, ints, meets, pos, to_z-of_z, w128}
use Rattle.std.proofs.Common.{FitsSigned, arith, rules, to_z, w64, ◌∙◌}
use Rattle.heat_flow.proofs.cut_check.offer_of.Goals as goal

pub loop-index-preserved : goal.loop-index-preserved
loop-index-preserved g c =
    let met = meets c.args.side (g.R.Reaches.reach c.args.reach.now) c.args.members.now in
    let fits : FitsSigned w64 c.part_offer.result = search rules in
    SumSoFar-more (λ j p. if met j then p.most else pos 0) MOST_HEAT c.args.others.now c.loop-index.index blank
    (to_z w128 c.loop-index.offer-bits) c.from-offer.result
    c.loop-index-test.true (omega (arith, ints)) c.loop-index.invariant
    (c.from-offer.ensures ∙ to_z-of_z w64 c.part_offer.result fits ∙ c.part_offer.ensures.value) (omega (arith, ints))
