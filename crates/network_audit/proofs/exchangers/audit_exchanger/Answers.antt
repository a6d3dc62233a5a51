use Rattle.network_audit.proofs.Words.{Gives, Rational, Step, Test, first_finding, is_below, is_reached, plus, side_items, value_formed, wanted_above}
use Rattle.network_audit.proofs.ItemLemmas.{found-failed, found-formed, found-not_formed, found-nothing, found-passed}
use Rattle.network_audit.proofs.exchangers.audit_exchanger.Goals.{After-plus, After-plus-2}
use Rattle.std.proofs.Common.{Some, [], ap, not, subst, sym, ◌∙◌, ◌∷◌, ◌≡◌}
use Rattle.network_audit.proofs.exchangers.audit_exchanger.Goals as goal
use Rattle.network_audit.specs.declared.findings.Finding.TheVariants as finding
use Rattle.network_audit.specs.declared.findings.Reason.TheVariants as reason

pub returns-then-is_forbidden : goal.returns-then-is_forbidden
returns-then-is_forbidden c = found-failed _ _ (ap not (sym c.is_forbidden.ensures ∙ c.if-is_forbidden.true))

-- what the hot end asks for
hot_end : (c : After-plus)
    → Gives c.plus.result (wanted_above c.args.case.now c.args.joint.now.hot c.args.joint.now.cold c.args.taken.now.leaves)
hot_end c =
    subst (λ a. Gives c.plus.result (plus c.args.taken.now.leaves a)) c.approach_of-approach.ensures c.plus.ensures

pub returns-in_default : goal.returns-in_default
returns-in_default c = found-passed _ _ (ap not (sym c.is_forbidden.ensures ∙ c.if-is_forbidden.false))
    ∙ found-not_formed _ 1 _ _ _ c.in_default.is (hot_end (goal.at.returns-in_default c).After-plus)

pub returns-then-is_below : goal.returns-then-is_below
returns-then-is_below c =
    let hot = hot_end (goal.at.returns-then-is_below c).After-plus in
    let wanted = value_formed _ _ _ c.in-Some.is hot in
    let low = ap (is_below c.args.given.now.enters) (sym wanted) ∙ sym c.is_below.ensures.value ∙ c.if-is_below.true in
    found-passed _ _ (ap not (sym c.is_forbidden.ensures ∙ c.if-is_forbidden.false))
    ∙ found-formed _ 1 _ _ _ _ c.in-Some.is hot ∙ found-failed _ _ (ap not low)
    ∙ ap (λ (w : Rational). Some (finding.Failed c.args.place (reason.HotEndApproach c.args.given.now.enters w))) (sym wanted)

-- the pair is permitted and the hot end is passed, and so the items of the cold end are left, which asks for this
record IsLeft (wanted : Rational) (c : After-plus-2) : Type 0 where
  gives : Gives c.plus-2.result wanted
  found : first_finding (side_items c.args.case.now c.args.place c.args.joint.now.hot c.args.joint.now.cold c.args.given.now c.args.taken.now)
      ≡ first_finding (Step c.args.place 2 wanted ∷ Test c.args.place (is_reached c.args.given.now.leaves wanted)
      (reason.ColdEndApproach c.args.given.now.leaves wanted) ∷ [])

cold_end : (c : After-plus-2)
    → IsLeft (wanted_above c.args.case.now c.args.joint.now.hot c.args.joint.now.cold c.args.taken.now.enters) c
cold_end c = let hot = hot_end (goal.at.After-plus-2 c).After-plus in
    let far = ap (is_below c.args.given.now.enters) (sym (value_formed _ _ _ c.in-Some.is hot))
    ∙ sym c.is_below.ensures.value ∙ c.if-is_below.false in
    record {
      gives =
          subst (λ a. Gives c.plus-2.result (plus c.args.taken.now.enters a)) c.approach_of-approach.ensures c.plus-2.ensures;
      found =
          found-passed _ _ (ap not (sym c.is_forbidden.ensures ∙ c.if-is_forbidden.false))
          ∙ found-formed _ 1 _ _ _ _ c.in-Some.is hot
          ∙ found-passed _ _ (ap not far);
    }

pub returns-in_default-plus : goal.returns-in_default-plus
returns-in_default-plus c =
    let cold = cold_end (goal.at.returns-in_default-plus c).After-plus-2 in
    cold.found
    ∙ found-not_formed _ 2 _ _ _ c.in_default-plus.is cold.gives

pub returns-then-is_below-2 : goal.returns-then-is_below-2
returns-then-is_below-2 c =
    let cold = cold_end (goal.at.returns-then-is_below-2 c).After-plus-2 in
    let wanted = value_formed _ _ _ c.in-Some-plus.is cold.gives in
    let low = ap (is_below c.args.given.now.leaves) (sym wanted) ∙ sym c.is_below-2.ensures.value
    ∙ c.if-is_below-2.true in
    cold.found ∙ found-formed _ 2 _ _ _ _ c.in-Some-plus.is cold.gives ∙ found-failed _ _ (ap not low)
    ∙ ap (λ (w : Rational). Some (finding.Failed c.args.place (reason.ColdEndApproach c.args.given.now.leaves w))) (sym wanted)

pub returns : goal.returns
returns c = let cold = cold_end (goal.at.returns c).After-plus-2 in
    let high = ap (is_below c.args.given.now.leaves) (sym (value_formed _ _ _ c.in-Some-plus.is cold.gives))
    ∙ sym c.is_below-2.ensures.value
    ∙ c.if-is_below-2.false in (cold.found ∙ found-formed _ 2 _ _ _ _ c.in-Some-plus.is cold.gives ∙ found-passed _ _ (ap not high) ∙ found-nothing, tt)
