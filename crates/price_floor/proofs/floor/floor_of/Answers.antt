use Rattle.price_floor.proofs.Words.{IsAtMost, IsTrue, cost_of, known_network, to_z-of_z, w128, whole}
use Rattle.price_floor.proofs.FloorLemmas.{no_network-costs_less}
use Rattle.price_floor.proofs.UsesLemmas.{uses_ordered}
use Rattle.std.proofs.Common.{FitsSigned, rules, subst, sym, ◌∙◌}
use Rattle.price_floor.proofs.floor.floor_of.Goals as goal

pub returns-clause-floor : goal.returns-clause-floor
returns-clause-floor c =
    let known = known_network _ _ _ c.requires.accepted c.knows_its_network.ensures in
    let fits : FitsSigned w128 c.value_of.result = search rules in
    subst (λ value. IsAtMost (whole value) (cost_of c.args.case.now c.args.network.now))
    (sym c.value_of.ensures.value ∙ sym (to_z-of_z w128 c.value_of.result fits))
    (no_network-costs_less uses_ordered c.args.case.now c.args.network.now c.args.parts.now.hot c.args.parts.now.cold c.args.prices.now.hot
    c.args.prices.now.cold known.complete known.shape known.valid
    c.requires.parts (λ a b reached. c.requires.supporting.supporting a b (subst IsTrue (sym (c.requires.reach.cells a b)) reached)))
