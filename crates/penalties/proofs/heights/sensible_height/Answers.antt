use Rattle.penalties.proofs.Words.{Gives, first_finding, is_below, minus, rational_zero, times, value_formed}
use Rattle.network_audit.proofs.ItemLemmas.{found-formed, found-not_formed, found-nothing}
use Rattle.penalties.proofs.SurveyLemmas.{height-above, height-below, steps-above, steps-below}
use Rattle.std.proofs.Common.{ap, false, subst, sym, true, ◌∙◌, ◌≡◌}
use Rattle.penalties.proofs.heights.sensible_height.Goals as goal

pub returns-in_default : goal.returns-in_default
returns-in_default c = found-not_formed c.args.place c.args.step _ _ _ c.in_default.is c.minus.ensures

pub returns-then-not-is_positive : goal.returns-then-not-is_positive
returns-then-not-is_positive c =
    let distance = value_formed _ _ _ c.in-Some.is c.minus.ensures in
    let below : is_below rational_zero (minus c.args.value.now.t c.args.base.now) ≡ false =
    ap (is_below rational_zero) (sym distance) ∙ sym c.is_positive.ensures.value ∙ c.if-not-is_positive.true in (
      ap first_finding (steps-below c.args.place c.args.step c.args.value.now.cp _ below)
          ∙ found-formed c.args.place c.args.step _ _ _ _ c.in-Some.is c.minus.ensures ∙ found-nothing,
      c.whole.ensures ∙ sym (height-below c.args.value.now.cp _ below),
    )

pub returns-in-Some-times : goal.returns-in-Some-times
returns-in-Some-times c =
    let distance = value_formed _ _ _ c.in-Some.is c.minus.ensures in
    let above : is_below rational_zero (minus c.args.value.now.t c.args.base.now) ≡ true =
    ap (is_below rational_zero) (sym distance) ∙ sym c.is_positive.ensures.value ∙ c.if-not-is_positive.false in
    let gives : Gives c.times.result (times c.args.value.now.cp (minus c.args.value.now.t c.args.base.now)) =
    subst (λ d. Gives c.times.result (times c.args.value.now.cp d)) distance c.times.ensures in (
      ap first_finding (steps-above c.args.place c.args.step c.args.value.now.cp _ above)
          ∙ found-formed c.args.place c.args.step _ _ _ _ c.in-Some.is c.minus.ensures
          ∙ found-formed c.args.place _ _ _ _ _ c.in-Some-times.is gives ∙ found-nothing,
      value_formed _ _ _ c.in-Some-times.is gives ∙ sym (height-above c.args.value.now.cp _ above),
    )

pub returns-in-None : goal.returns-in-None
returns-in-None c =
    let distance = value_formed _ _ _ c.in-Some.is c.minus.ensures in
    let above : is_below rational_zero (minus c.args.value.now.t c.args.base.now) ≡ true =
    ap (is_below rational_zero) (sym distance) ∙ sym c.is_positive.ensures.value ∙ c.if-not-is_positive.false in
    let gives : Gives c.times.result (times c.args.value.now.cp (minus c.args.value.now.t c.args.base.now)) =
    subst (λ d. Gives c.times.result (times c.args.value.now.cp d)) distance c.times.ensures in
    ap first_finding (steps-above c.args.place c.args.step c.args.value.now.cp _ above)
    ∙ found-formed c.args.place c.args.step _ _ _ _ c.in-Some.is c.minus.ensures
    ∙ found-not_formed c.args.place _ _ _ _ c.in-None.is gives
