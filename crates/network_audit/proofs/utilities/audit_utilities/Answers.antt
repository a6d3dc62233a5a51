use Rattle.network_audit.proofs.ItemLemmas.{found-append, found-nothing}
use Rattle.network_audit.proofs.JointLemmas.{heats-more}
use Rattle.network_audit.proofs.Words.{all_heat_items, first-here, first-more, first-none, first_finding, heat_items, heats_in, take_all, take_more_set}
use Rattle.std.proofs.Common.{None, Some, [], ap, arith, length, refl, subst, sym, take, ◌++◌, ◌∙◌, ◌∷◌, ◌≡◌, ◌≤◌}
use Rattle.network_audit.proofs.utilities.audit_utilities.Goals as goal

pub loop-index-init : goal.loop-index-init
unfolding heats_in
loop-index-init c = record { passed = found-nothing; kept = refl }

pub returns-in-Err : goal.returns-in-Err
unfolding all_heat_items
returns-in-Err c =
    let n = c.loop-index.index in
    let u = c.index-utilities-index.result in
    first-here first_finding found-append (heat_items c.args.joints.now) c.args.utilities.now n u c.in-Err.found
    c.loop-index-test.true c.loop-index.invariant.passed
    (subst (λ v. first_finding (heat_items c.args.joints.now (n, v)) ≡ Some c.in-Err.found) c.index-utilities-index.is c.in-Err.ensures)

pub loop-index-preserved : goal.loop-index-preserved
loop-index-preserved c =
    let n = c.loop-index.index in
    let u = c.index-utilities-index.result in
    let joints = c.args.joints.now in
    record {
      passed =
          first-more first_finding found-append (heat_items joints) c.args.utilities.now n u c.loop-index-test.true c.loop-index.invariant.passed
          (subst (λ v. first_finding (heat_items joints (n, v)) ≡ None) c.index-utilities-index.is c.in-Ok.ensures.0);
      kept =
          take_more_set c.loop-index.heats n c.in-Ok.heat (omega (arith, c.loop-index-test.true, c.loop-index.auto.heats, c.requires.room))
          ∙ ap (λ hs. hs ++ c.in-Ok.heat ∷ []) c.loop-index.invariant.kept
          ∙ ap (λ h. heats_in joints (take n c.args.utilities.now) ++ h ∷ []) c.in-Ok.ensures.1
          ∙ sym (heats-more joints c.args.utilities.now n u c.loop-index-test.true);
    }

pub returns : goal.returns
unfolding all_heat_items
returns c =
    let n = c.loop-index.index in
    let end : length c.args.utilities.now ≤ n = c.loop-index-test.false in (
      first-none first_finding found-append (heat_items c.args.joints.now) c.args.utilities.now n end c.loop-index.invariant.passed,
      sym (take_all n c.loop-index.heats (omega (arith, end, c.loop-index.auto.heats, c.requires.room)))
          ∙ c.loop-index.invariant.kept
          ∙ ap (heats_in c.args.joints.now) (take_all n c.args.utilities.now end),
    )
