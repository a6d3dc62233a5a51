use Rattle.network_audit.proofs.Words.{Sum, duties_in, err_from_is_err_and, joint_duty, plus}
use Rattle.network_audit.proofs.SumSteps.{IsSummed, sum-all, sum-more, sum-not, sum-same, summed-none, total-is}
use Rattle.network_audit.proofs.utilities.heat_with.Goals.{else-needs, then-needs+in_ok-sum}
use Rattle.std.proofs.Common.{None, Some, [], ap, arith, filter_map, get_or, if◌then◌else◌, subst, sym, take, ◌+◌, ◌∙◌, ◌≡◌}
use Rattle.network_audit.proofs.utilities.heat_with.Goals as goal

pub loop-joint-init : goal.loop-joint-init
unfolding duties_in
loop-joint-init c = record {
  few = omega (arith, ap (λ (s : Sum). s.steps) c.after-sum.ensures);
  summed = subst (λ (s : Sum). IsSummed 0 [] s.total s.steps) (sym c.after-sum.ensures) (summed-none 0);
}

pub plus-requires : goal.plus-requires
plus-requires c = omega (arith, c.loop-joint.invariant.few)

pub returns-in_err-sum : goal.returns-in_err-sum
unfolding duties_in
returns-in_err-sum c = let d = c.joint-item.result in
    let has : joint_duty c.args.index d ≡ Some d.duty
    = ap (λ b. if b then Some d.duty else None) (sym c.needs.ensures ∙ c.if-needs.true) in
    let p = err_from_is_err_and c.from_residual.result c.from_residual.ensures.1 in rw (p.1, p.2)
    (sum-not (joint_duty c.args.index) 0 c.args.joints.now c.loop-joint.joint-index d d.duty c.loop-joint.sum.total c.loop-joint.sum.steps _ (omega arith)
    (ap (joint_duty c.args.index) (sym c.joint-item.is) ∙ has) c.loop-joint.invariant.summed c.in_err-sum.ensures)

pub loop-joint-preserved : goal.loop-joint-preserved
unfolding duties_in
loop-joint-preserved c =
    let d = c.joint-item.result in
    let n = c.loop-joint.joint-index in
    elim c.if-needs.branch [
      | then-needs+in_ok-sum w ↦
          let has : joint_duty c.args.index (get_or c.args.joints.now n d) ≡ Some d.duty
          = ap (joint_duty c.args.index) (sym c.joint-item.is)
          ∙ ap (λ b. if b then Some d.duty else None) (sym c.needs.ensures ∙ w.if-needs.true) in
          let is : c.if-needs.sum ≡ record { total = plus c.loop-joint.sum.total d.duty; steps = c.loop-joint.sum.steps + 1 }
          = w.sum-is
          ∙ w.in_ok-sum.ensures.1 in record {
            few = omega (arith, ap (λ (s : Sum). s.steps) is, c.loop-joint.invariant.few);
            summed =
                subst (λ (s : Sum). IsSummed 0 (duties_in (take (n + 1) c.args.joints.now) c.args.index) s.total s.steps) (sym is)
                (sum-more (joint_duty c.args.index) 0 c.args.joints.now n d d.duty c.loop-joint.sum.total c.loop-joint.sum.steps c.loop-joint-test.true has
                c.loop-joint.invariant.summed w.in_ok-sum.ensures.0);
          }
      | else-needs w ↦
          let none : joint_duty c.args.index (get_or c.args.joints.now n d) ≡ None
          = ap (joint_duty c.args.index) (sym c.joint-item.is)
          ∙ ap (λ b. if b then Some d.duty else None) (sym c.needs.ensures ∙ w.if-needs.false) in record {
            few = omega (arith, ap (λ (s : Sum). s.steps) w.sum-is, c.loop-joint.invariant.few);
            summed =
                subst (λ (s : Sum). IsSummed 0 (duties_in (take (n + 1) c.args.joints.now) c.args.index) s.total s.steps) (sym w.sum-is)
                (sum-same (joint_duty c.args.index) 0 c.args.joints.now n d c.loop-joint.sum.total c.loop-joint.sum.steps c.loop-joint-test.true none
                c.loop-joint.invariant.summed);
          }
    ]

pub returns : goal.returns
unfolding duties_in
returns c =
    let all = sum-all (joint_duty c.args.index) 0 c.args.joints.now c.loop-joint.joint-index c.loop-joint.sum.total c.loop-joint.sum.steps
    (omega arith) c.loop-joint.invariant.summed in
    (all.passed, total-is 0 (filter_map (joint_duty c.args.index) c.args.joints.now) c.loop-joint.sum.total c.loop-joint.sum.steps all)
