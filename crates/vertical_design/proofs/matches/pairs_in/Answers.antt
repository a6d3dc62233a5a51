use Rattle.std.proofs.Common.{arith, of_z, subst, sym, to_z, w64, ◌∙◌}
use Rattle.vertical_design.proofs.Words.{IsSideFlow, NotNegative, ints}
use Rattle.vertical_design.proofs.FlowLimits.{scaled-positive}
use Rattle.vertical_design.proofs.matches.pairs_in.Goals as goal

pub pair_amounts-requires-clause-firsts : goal.pair_amounts-requires-clause-firsts
pair_amounts-requires-clause-firsts c =
    let range = c.requires.cold_flow in
    let side = to_z w64 (of_z w64 c.args.gap.cold) in
    let is_side : IsSideFlow side = record { from = omega (arith, ints); upto = omega (arith, ints) } in
    subst NotNegative (sym (c.as_slice.ensures.value ∙ c.in_ok-offered.ensures))
    (scaled-positive c.args.hot_flows.now side c.requires.hot is_side)

pub pair_amounts-requires-clause-seconds : goal.pair_amounts-requires-clause-seconds
pair_amounts-requires-clause-seconds c =
    let range = c.requires.hot_flow in
    let side = to_z w64 (of_z w64 c.args.gap.hot) in
    let is_side : IsSideFlow side = record { from = omega (arith, ints); upto = omega (arith, ints) } in
    subst NotNegative (sym (c.as_slice-2.ensures.value ∙ c.in_ok-asked.ensures))
    (scaled-positive c.args.cold_flows.now side c.requires.cold is_side)
