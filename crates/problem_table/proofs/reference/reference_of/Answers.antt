use Rattle.problem_table.proofs.Words.{to_z-of_z}
use Rattle.problem_table.specs.Deficit.{CountsFromItself}
use Rattle.std.proofs.Common.{FitsSigned, IsTrue, rules, subst, sym, w32, ◌↔◌}
use Rattle.problem_table.proofs.reference.reference_of.Goals as goal

pub returns-clause-from_itself : goal.returns-clause-from_itself
returns-clause-from_itself c =
    let place = c.reference_place_of-place.result in
    let counts = c.counts_from_itself-from_itself.result in
    let fits : FitsSigned w32 place = search rules in
    let found = c.counts_from_itself-from_itself.ensures place c.reference_place_of-place.ensures in
    let here = subst (λ streams. IsTrue counts ↔ CountsFromItself streams place) c.as_slice-streams.ensures found in
    subst (λ p. IsTrue counts ↔ CountsFromItself c.args.case.now.streams p) (sym (to_z-of_z w32 place fits)) here
