use Rattle.network_audit.proofs.ItemLemmas.{found-append, found-nothing}
use Rattle.network_audit.proofs.Words.{first-here, first-more, first-none, first_finding, joint_items, joint_items_at, side_items}
use Rattle.std.proofs.Common.{None, Some, ap, arith, subst, sym, ◌∙◌, ◌≡◌}
use Rattle.network_audit.proofs.exchangers.audit_exchangers.Goals as goal
use Rattle.network_audit.specs.declared.findings.Place.TheVariants as place

pub loop-number-init : goal.loop-number-init
loop-number-init c = found-nothing

pub returns-in-Err : goal.returns-in-Err
unfolding joint_items
returns-in-Err c =
    let d = c.index-joints-number.result in
    let n = c.loop-number.number in
    let here : first_finding (joint_items_at c.args.case.now c.args.values.now (n, d)) ≡ Some c.in-Err.found =
    ap first_finding (λ i. side_items c.args.case.now (place.Exchanger n) d.hot d.cold (sym c.ends_at-given.ensures i) (sym c.ends_at-taken.ensures i))
    ∙ c.in-Err.ensures in first-here first_finding found-append (joint_items_at c.args.case.now c.args.values.now) c.args.joints.now n d c.in-Err.found
    (omega arith) c.loop-number.invariant
    (subst (λ j. first_finding (joint_items_at c.args.case.now c.args.values.now (n, j)) ≡ Some c.in-Err.found) c.index-joints-number.is here)

pub loop-number-preserved : goal.loop-number-preserved
loop-number-preserved c =
    let d = c.index-joints-number.result in
    let n = c.loop-number.number in
    let here : first_finding (joint_items_at c.args.case.now c.args.values.now (n, d)) ≡ None =
    ap first_finding (λ i. side_items c.args.case.now (place.Exchanger n) d.hot d.cold (sym c.ends_at-given.ensures i) (sym c.ends_at-taken.ensures i))
    ∙ c.in_default.ensures.0 in
    first-more first_finding found-append (joint_items_at c.args.case.now c.args.values.now) c.args.joints.now n d (omega arith) c.loop-number.invariant
    (subst (λ j. first_finding (joint_items_at c.args.case.now c.args.values.now (n, j)) ≡ None) c.index-joints-number.is here)

pub returns : goal.returns
unfolding joint_items
returns c = (
  first-none first_finding found-append (joint_items_at c.args.case.now c.args.values.now) c.args.joints.now c.loop-number.number
      (omega arith) c.loop-number.invariant,
  tt,
)
