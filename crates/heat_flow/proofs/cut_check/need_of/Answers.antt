use Rattle.heat_flow.proofs.LoopSums.{SumSoFar-more}
use Rattle.heat_flow.proofs.Words.{MOST_HEAT, int_sum_from, int_sum_from-by, ints, least_at, take_all, to_z-of_z, w128}
use Rattle.std.proofs.Common.{FitsSigned, ap, arith, rules, to_z, w64, ◌∙◌}
use Rattle.heat_flow.proofs.cut_check.need_of.Goals as goal

pub loop-member-preserved : goal.loop-member-preserved
loop-member-preserved c =
    let i = c.loop-member.member-index in
    let fits : FitsSigned w64 c.least_at.result = search rules in
    SumSoFar-more (λ j m. least_at c.args.parts.now m) MOST_HEAT c.args.members.now i 0 (to_z w128 c.loop-member.need-bits) c.from-need.result
    c.loop-member-test.true (omega (arith, ints)) c.loop-member.invariant
    (c.from-need.ensures ∙ to_z-of_z w64 c.least_at.result fits ∙ c.least_at.ensures.value) (omega (arith, ints))

pub returns : goal.returns
returns c =
    let members = c.args.members.now in
    c.loop-member.invariant.sum
    ∙ ap (int_sum_from (λ i m. least_at c.args.parts.now m) 0) (take_all c.loop-member.member-index members c.loop-member-test.false)
    ∙ int_sum_from-by (least_at c.args.parts.now) 0 members
