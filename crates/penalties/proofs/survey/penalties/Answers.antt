use Rattle.network_audit.proofs.VerdictLemmas.{known_network}
use Rattle.penalties.proofs.Words.{AreStreams-IsComplete, Audit, HasValidStreams-IsComplete, exchangers_of, few_exchangers, joints_of, length-joints}
use Rattle.penalties.proofs.StepLemmas.{all_listed, found_none, found_some, listed_not_negative, listed_sum, reference_view, too_fine_first, too_fine_later}
use Rattle.penalties.proofs.SurveyLemmas.{supplies_shifted}
use Rattle.std.proofs.Common.{ap, arith, length, ◌∙◌, ◌≡◌}
use Rattle.penalties.proofs.survey.penalties.Goals as goal

pub reference_of-requires : goal.reference_of-requires
reference_of-requires c =
    HasValidStreams-IsComplete c.args.case.now (known_network _ _ _ c.requires.accepted c.knows_its_network.ensures).complete

pub invariant_of-survey : goal.invariant_of-survey
invariant_of-survey c =
    let complete = (known_network _ _ _ c.requires.accepted c.knows_its_network.ensures).complete in
    record { levels = supplies_shifted c.args.case.now.streams (AreStreams-IsComplete c.args.case.now complete).each }

pub add_exchangers-requires : goal.add_exchangers-requires
add_exchangers-requires c =
    let network = c.args.network.now in
    let many : length c.joints-joints.result.now ≡ length (exchangers_of network.lines) =
    ap length (c.joints-joints.ensures ∙ ap (λ (a : Audit). joints_of a.network) c.requires.accepted.is)
    ∙ length-joints network.branches network.lines (exchangers_of network.lines) in
    let fewer = few_exchangers network.lines in
    let few = (known_network _ _ _ c.requires.accepted c.knows_its_network.ensures).shape.few in
    omega (arith, many, fewer, few)

pub add_mixes-requires : goal.add_mixes-requires
add_mixes-requires c =
    omega (arith, ap length c.as_slice.ensures, (known_network _ _ _ c.requires.accepted c.knows_its_network.ensures).shape.few)

pub returns-in-Some-clause-lists : goal.returns-in-Some-clause-lists
returns-in-Some-clause-lists c =
    let found = c.reference_of.ensures in
    let is_reference = reference_view c.args.case.now.streams c.reference_of.result found.place found.from_itself in
    too_fine_first c.args.case.now c.args.network.now c.args.auditor.now _ c.joints-joints.result.now c.requires.accepted
    c.knows_its_network.ensures is_reference c.joints-joints.ensures
    c.in-Some.field-0.place c.in-Some.field-0.step (found_some _ _ _ _ c.in_ok-place.ensures c.in-Some.is)

pub returns-in-Some-2-clause-lists : goal.returns-in-Some-2-clause-lists
returns-in-Some-2-clause-lists c =
    let found = c.reference_of.ensures in
    let is_reference = reference_view c.args.case.now.streams c.reference_of.result found.place found.from_itself in
    let exchangers = found_none _ _ _ c.in_ok-place.ensures c.in_default.not-Some in
    too_fine_later c.args.case.now c.args.network.now c.args.auditor.now _ c.joints-joints.result.now c.requires.accepted
    c.knows_its_network.ensures is_reference c.joints-joints.ensures
    c.as_slice.result.now c.as_slice.ensures c.in-Some-2.field-0.place c.in-Some-2.field-0.step exchangers.0
    (found_some _ _ _ _ c.in_ok-place-2.ensures c.in-Some-2.is)

pub returns-clause-lists : goal.returns-clause-lists
returns-clause-lists c =
    let found = c.reference_of.ensures in
    let is_reference = reference_view c.args.case.now.streams c.reference_of.result found.place found.from_itself in
    let exchangers = found_none _ _ _ c.in_ok-place.ensures c.in_default.not-Some in
    let mixes = found_none _ _ _ c.in_ok-place-2.ensures c.in_default-2.not-Some in
    all_listed c.args.case.now c.args.network.now c.args.auditor.now _ c.joints-joints.result.now c.requires.accepted
    c.knows_its_network.ensures is_reference c.joints-joints.ensures
    c.as_slice.result.now c.as_slice.ensures c.new-list.result.items c.add_exchangers.new.list.items c.from_vec.result
    exchangers.0 mixes.0 c.new-list.ensures.items exchangers.1 (c.from_vec.ensures ∙ mixes.1)

pub returns-clause-not_negative : goal.returns-clause-not_negative
returns-clause-not_negative c =
    let known = known_network _ _ _ c.requires.accepted c.knows_its_network.ensures in
    listed_not_negative c.args.case.now c.args.network.now (AreStreams-IsComplete c.args.case.now known.complete)
    known.shape known.valid c.from_vec.result (returns-clause-lists c)

pub returns-clause-sum : goal.returns-clause-sum
returns-clause-sum c =
    let known = known_network _ _ _ c.requires.accepted c.knows_its_network.ensures in
    listed_sum c.args.case.now c.args.network.now (AreStreams-IsComplete c.args.case.now known.complete)
    known.shape known.valid c.from_vec.result (returns-clause-lists c)
