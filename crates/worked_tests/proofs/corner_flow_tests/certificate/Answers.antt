-- Whether the reference place counts from itself is told of this very place.
use Rattle.problem_table.specs.Deficit.{CountsFromItself}
use Rattle.std.proofs.Common.{FitsSigned, IsTrue, rules, subst, sym, w32, ◌↔◌}
use Rattle.std.proofs.lemmas.Int.{to_z-of_z}
use Rattle.worked_tests.proofs.corner_flow_tests.certificate.Goals as goal

pub corner_prices-requires-clause-from_itself : goal.corner_prices-requires-clause-from_itself
corner_prices-requires-clause-from_itself c =
    let place = c.reference_place-place.result in
    let fits : FitsSigned w32 place = search rules in
    subst (λ p. IsTrue c.reference_from-from_itself.result ↔ CountsFromItself c.args.case.now.streams p)
    (sym (to_z-of_z w32 place fits)) (c.reference_from-from_itself.ensures place c.reference_place-place.ensures)
