use Rattle.price_floor.proofs.CutLemmas.{no_cut-stands}
use Rattle.price_floor.proofs.FloorLemmas.{no_network-costs_less}
use Rattle.price_floor.proofs.UsesLemmas.{uses_ordered}
use Rattle.price_floor.proofs.Words.{AreStreams-IsComplete, IsAtMost, IsLeastCostOf, cost_of, to_z-of_z, w128, whole}
use Rattle.std.proofs.Common.{FitsSigned, rules, subst, sym, ◌∙◌}
use Rattle.price_floor.proofs.floor.cost_floor.Goals as goal

pub targets-requires : goal.targets-requires
targets-requires c = AreStreams-IsComplete c.args.case.now c.requires.complete

pub unreachable-requires : goal.unreachable-requires
unreachable-requires c =
    let found = rw c.in-Err.is at c.in_ok-cost.ensures in
    let (hot, cold, parts) = found.some in
    no_cut-stands uses_ordered c.args.case.now c.args.network.now hot cold c.in-Err.field-0 c.requires.complete c.requires.shape c.requires.valid
    parts (found.each hot cold parts)

pub returns-clause-least : goal.returns-clause-least
returns-clause-least c =
    let cost = c.in-Ok.cost in
    let fits : FitsSigned w128 cost = search rules in
    let found = rw c.in-Ok.is at c.in_ok-cost.ensures in
    subst (IsLeastCostOf c.args.case.now) (sym (to_z-of_z w128 cost fits)) found.least

pub returns-clause-floor : goal.returns-clause-floor
returns-clause-floor c =
    let case = c.args.case.now in
    let network = c.args.network.now in
    let cost = c.in-Ok.cost in
    let fits : FitsSigned w128 cost = search rules in
    let found = rw c.in-Ok.is at c.in_ok-cost.ensures in
    let (hot, cold, parts) = found.value.some in
    let value = found.value.each hot cold parts in
    subst (λ floor. IsAtMost (whole floor) (cost_of case network)) (value.is ∙ sym (to_z-of_z w128 cost fits))
    (no_network-costs_less uses_ordered case network hot cold value.prices.hot value.prices.cold c.requires.complete c.requires.shape c.requires.valid
    parts value.supporting)
