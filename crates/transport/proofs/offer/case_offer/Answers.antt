use Rattle.transport.proofs.Words.{MOST_HEAT, SumSoFar-more, blank, cut_side, if◌then◌else◌, ints, meets, opposite, parts_of, pos, reach_between, to_z-of_z}
use Rattle.transport.proofs.Words.{w128}
use Rattle.std.proofs.Common.{FitsSigned, arith, length, rules, subst, to_z, w64, ◌<◌, ◌∙◌}
use Rattle.transport.proofs.LoopLemmas.{few_of_side, offer-by_part}
use Rattle.transport.proofs.offer.case_offer.Goals as goal

pub loop-index-preserved : goal.loop-index-preserved
loop-index-preserved c =
    let parts = c.args.parts.now in
    let side = cut_side c.args.members.now.kind in
    let others = parts_of (opposite side) parts.hot parts.cold in
    let members = c.args.members.now.indexes in
    let i = c.loop-index.index in
    let others_are = rw (c.opposite-other_side.ensures, c.side-side.ensures) at c.parts_of-others.ensures in
    let within = subst (λ ps. i < length ps) others_are c.loop-index-test.true in
    let few = few_of_side parts (opposite side) in
    let alike = rw (c.opposite-other_side.ensures, c.side-side.ensures, others_are) at c.in_ok-picked.ensures in
    let value = rw (c.side-side.ensures, c.as_slice-indexes.ensures, others_are, c.as_slice-forbids.ensures.value) at c.part_offer.ensures.value in
    let range = c.part_offer.ensures.range in
    let fits : FitsSigned w64 c.part_offer.result = search rules in
    SumSoFar-more (λ j p. if meets side (reach_between c.args.case.now parts.hot parts.cold) members j then p.most else pos 0) MOST_HEAT others i blank
    (to_z w128 c.loop-index.offer-bits) c.from-offer.result within (omega (arith, ints, within, few)) c.loop-index.invariant
    (c.from-offer.ensures ∙ to_z-of_z w64 c.part_offer.result fits ∙ value
    ∙ offer-by_part c.args.case.now parts.hot parts.cold side c.in_ok-picked.picked.items members i within alike)
    (record { from = omega (arith, ints); upto = omega (arith, ints) })
