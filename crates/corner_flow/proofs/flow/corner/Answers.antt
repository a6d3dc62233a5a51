use Rattle.corner_flow.proofs.FewTransfers.{fewer_than_parts}
use Rattle.corner_flow.proofs.FlowLemmas.{as_pair-as_transfer, corner-cost, corner-heat, corner-is_flow, heats-not_negative}
use Rattle.corner_flow.proofs.HeatLemmas.{needs_heat}
use Rattle.corner_flow.proofs.PinchLaw.{no_heat_crosses_pinch}
use Rattle.corner_flow.proofs.SideLemmas.{AreStandardParts, AreStandardParts-parts}
use Rattle.corner_flow.proofs.Words.{Cold, Hot, IsCornerFlow, NeedsHeat, NotNegative, UtilityHeat, as_pair, as_transfer, heats_of}
use Rattle.std.proofs.Common.{ap, map, subst, sym, ◌∙◌}
use Rattle.corner_flow.proofs.flow.corner.Goals as goal

pub overlaps_of-requires-clause-hot : goal.overlaps_of-requires-clause-hot
overlaps_of-requires-clause-hot c =
    let hot = c.args.parts.now.hot in
    subst (λ t. NotNegative (heats_of t hot)) (sym c.requires.hot_target)
    (heats-not_negative (AreStandardParts-parts c.requires.complete c.requires.standard c.requires.parts) Hot)

pub overlaps_of-requires-clause-cold : goal.overlaps_of-requires-clause-cold
overlaps_of-requires-clause-cold c =
    let cold = c.args.parts.now.cold in
    subst (λ t. NotNegative (heats_of t cold)) (sym c.requires.cold_target)
    (heats-not_negative (AreStandardParts-parts c.requires.complete c.requires.standard c.requires.parts) Cold)

standard : (c : goal.After-drop-pairs-2) → AreStandardParts c.args.case.now c.args.parts.now.hot c.args.parts.now.cold
standard c = AreStandardParts-parts c.requires.complete c.requires.standard c.requires.parts

spans : (c : goal.After-drop-pairs-2)
    → IsCornerFlow c.args.case.now c.args.parts.now.hot c.args.parts.now.cold c.from_vec.result
spans c =
    let pairs = ap (map as_pair) (c.from_vec.ensures ∙ c.in_ok-transfers.ensures ∙ ap (map as_transfer) c.as_slice.ensures.value)
    ∙ as_pair-as_transfer c.in_ok-pairs.pairs.items in
    rw (pairs, sym c.requires.cold_target, sym c.requires.hot_target) c.in_ok-pairs.ensures

pub returns-clause-spans : goal.returns-clause-spans
returns-clause-spans c = spans c

pub returns-clause-flow : goal.returns-clause-flow
returns-clause-flow c = corner-is_flow (standard c) c.from_vec.result (spans c)

pub returns-clause-few : goal.returns-clause-few
returns-clause-few c =
    fewer_than_parts c.args.case.now c.args.parts.now.hot c.args.parts.now.cold c.from_vec.result (heats-not_negative (standard c) Hot)
    (heats-not_negative (standard c) Cold) (spans c)

pub returns-clause-hot_heat : goal.returns-clause-hot_heat
returns-clause-hot_heat c =
    subst (UtilityHeat Hot c.args.parts.now.hot c.from_vec.result) (sym c.requires.hot_target) (corner-heat (standard c) c.from_vec.result (spans c) Hot)

pub returns-clause-cold_heat : goal.returns-clause-cold_heat
returns-clause-cold_heat c =
    subst (UtilityHeat Cold c.args.parts.now.cold c.from_vec.result) (sym c.requires.cold_target) (corner-heat (standard c) c.from_vec.result (spans c) Cold)

pub returns-clause-cost : goal.returns-clause-cost
returns-clause-cost c = corner-cost (standard c) c.from_vec.result (spans c) ∙ sym c.requires.hot_target

pub returns-clause-least_hot : goal.returns-clause-least_hot
returns-clause-least_hot c =
    subst (NeedsHeat c.args.case.now c.args.parts.now.hot c.args.parts.now.cold Hot) (sym c.requires.hot_target) (needs_heat (standard c) Hot)

pub returns-clause-least_cold : goal.returns-clause-least_cold
returns-clause-least_cold c =
    subst (NeedsHeat c.args.case.now c.args.parts.now.hot c.args.parts.now.cold Cold) (sym c.requires.cold_target) (needs_heat (standard c) Cold)

pub returns-clause-pinch : goal.returns-clause-pinch
returns-clause-pinch c = no_heat_crosses_pinch (standard c)
