use Rattle.penalties.proofs.Words.{too_fine}
use Rattle.network_audit.proofs.ItemLemmas.{found-append, found-nothing}
use Rattle.penalties.proofs.StepLemmas.{made-more}
use Rattle.penalties.proofs.Words.{Penalty, all_joint_steps, enumerate_from, first-here, first-more, first-none, first_finding, joint_row, joint_rows}
use Rattle.penalties.proofs.Words.{joint_steps, seen_height, seen_steps}
use Rattle.std.proofs.Common.{None, Some, [], ap, append-nil, get_or, map, subst, sym, take_all, ◌++◌, ◌∙◌, ◌∷◌, ◌≡◌}
use Rattle.network_audit.specs.declared.findings.Place.TheVariants as place
use Rattle.penalties.proofs.heights.Survey.add_exchangers.Goals as goal

pub loop-number-init : goal.loop-number-init
loop-number-init c = (found-nothing, sym (append-nil c.args.list.now.items))

pub returns-in-Err : goal.returns-in-Err
unfolding all_joint_steps
returns-in-Err c =
    let n = c.loop-number.number in
    let steps = joint_steps (seen_height c.args.self.now) (seen_steps c.args.self.now) in
    first-here first_finding found-append steps c.args.joints.now n c.index-joints-number.result _ c.loop-number-test.true c.loop-number.invariant.0
    (subst (λ j. first_finding (steps (n, j)) ≡ Some (too_fine c.in-Err.found.place c.in-Err.found.step)) c.index-joints-number.is c.in-Err.ensures)

pub loop-number-preserved : goal.loop-number-preserved
loop-number-preserved c =
    let d = c.index-joints-number.result in
    let n = c.loop-number.number in
    let height = seen_height c.args.self.now in
    let steps = joint_steps height (seen_steps c.args.self.now) in
    let row : Penalty = record { place = place.Exchanger n; value = c.in-Ok.value } in
    let same : row ≡ joint_row height (n, get_or c.args.joints.now n d) =
    (λ i. record { place = place.Exchanger n; value = c.in-Ok.ensures.1 i })
    ∙ ap (λ j. joint_row height (n, j)) c.index-joints-number.is in (
      first-more first_finding found-append steps c.args.joints.now n d c.loop-number-test.true c.loop-number.invariant.0
          (subst (λ j. first_finding (steps (n, j)) ≡ None) c.index-joints-number.is c.in-Ok.ensures.0),
      c.in_ok-push-in-Ok.ensures.items ∙ ap (λ p. c.loop-number.list.items ++ p ∷ []) same
          ∙ made-more c.args.joints.now n d c.loop-number-test.true (joint_row height) c.loop-number.list.items c.args.list.now.items c.loop-number.invariant.1,
    )

pub returns : goal.returns
unfolding all_joint_steps joint_rows
returns c =
    let height = seen_height c.args.self.now in (
      first-none first_finding found-append (joint_steps height (seen_steps c.args.self.now))
          c.args.joints.now c.loop-number.number c.loop-number-test.false c.loop-number.invariant.0,
      c.loop-number.invariant.1 ∙ ap (λ js. c.args.list.now.items ++ map (joint_row height) (enumerate_from 0 js))
          (take_all c.loop-number.number c.args.joints.now c.loop-number-test.false),
    )
