-- An end that is a pinch is found, and the found ends in falling order are the pinches.
use Rattle.problem_table.proofs.DeficitLemmas.{Finds, Finds-other, Finds-pinch, ListsFalling-pinches}
use Rattle.problem_table.proofs.pinch.pinches_at.Goals.{else-is_pinch, then-is_pinch+in_ok-push}
use Rattle.problem_table.proofs.Words.{IsPinch, ListsFalling, false≢true, to_z-of_z}
use Rattle.std.proofs.Common.{FitsSigned, List, [], ap, get_or, pos, refl, rules, subst, sym, take, take_all, w32, ℤ, ◌++◌, ◌+◌, ◌∙◌, ◌∷◌}
use Rattle.problem_table.proofs.pinch.pinches_at.Goals as goal

pub loop-end-preserved : goal.loop-end-preserved
loop-end-preserved c =
    let streams = c.as_slice-streams.result.now in
    let ends = c.as_slice-ends.result.now in
    let i = c.loop-end.end-index in
    let end = get_or ends i (pos 0) in
    let fits : FitsSigned w32 end = search rules in
    let back = to_z-of_z w32 end fits in
    let is_pinch = simp back at c.is_pinch.ensures in
    let within = c.loop-end-test.true in
    elim c.if-is_pinch.branch [
      | then-is_pinch+in_ok-push w ↦
          let found = ap (λ v. v.items) w.found-is ∙ w.in_ok-push.ensures.items
          ∙ ap (λ x. c.loop-end.found.items ++ x ∷ []) back in
          subst (Finds streams (take (i + 1) ends)) (sym found)
          (Finds-pinch streams ends i end (pos 0) within refl c.loop-end.found.items (is_pinch.0 w.if-is_pinch.true) c.loop-end.invariant)
      | else-is_pinch w ↦
          subst (Finds streams (take (i + 1) ends)) (sym (ap (λ v. v.items) w.found-is))
          (Finds-other streams ends i end (pos 0) within refl c.loop-end.found.items
          (λ pinch. false≢true (sym w.if-is_pinch.false ∙ is_pinch.1 pinch)) c.loop-end.invariant)
    ]

pub returns : goal.returns
returns c =
    let streams = c.as_slice-streams.result.now in
    let ends = c.as_slice-ends.result.now in
    let whole = take_all c.loop-end.end-index ends c.loop-end-test.false in
    let all = c.as_slice-ends.ensures.value ∙ c.in_ok-all.ensures in
    let finds = subst (λ (xs : List ℤ). Finds streams xs c.loop-end.found.items) whole c.loop-end.invariant in
    let listed = ListsFalling-pinches streams ends c.loop-end.found.items c.falling.result.items all finds c.falling.ensures in
    let of_case = subst (λ given. ListsFalling (IsPinch given) c.falling.result.items) c.as_slice-streams.ensures listed in
    subst (ListsFalling (IsPinch c.args.case.now.streams)) (sym c.from_vec.ensures) of_case
