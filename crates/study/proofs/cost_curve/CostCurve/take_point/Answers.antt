use Rattle.std.proofs.Common.{Some, ap, arith, inl, inr, length, refl, slice_get, subst, sym, ◌-◌, ◌∙◌, ◌≡◌}
use Rattle.std.proofs.lemmas.List.Elements.{All-pop}
use Rattle.sums.proofs.ListLemmas.{All-slice_get}
use Rattle.study.proofs.Words.{All, IfOk-weaker, IsPoint, IsTaken, Point, get_or_from_slice_get, slice_get_within}
use Rattle.study.proofs.CostCurves.{last_taken, with_points}
use Rattle.study.proofs.cost_curve.CostCurve.take_point.Goals as goal

pub invariant_of-self : goal.invariant_of-self
invariant_of-self c =
    let is = IsPoint c.self.inside.priced.case.now c.self.inside.utility in
    with_points _ _ _ _ c.self.invariant (All-pop is _ _ _ c.pop.ensures.items c.self.invariant.points).0

pub returns-in-Some-clause-point : goal.returns-in-Some-clause-point
returns-in-Some-clause-point c =
    let is = IsPoint c.self.inside.priced.case.now c.self.inside.utility in
    let points = c.deref.result.now in
    let ahead = subst (All is) (sym c.deref.ensures.value) c.self.invariant.points in
    let at = sym c.last.ensures.value ∙ (sym c.copied.ensures ∙ c.in-Some.is) in
    rw (← c.self.view_is) (All-slice_get is points (length points - 1) c.in-Some.point ahead at)

pub returns-in-Some-clause-taken : goal.returns-in-Some-clause-taken
returns-in-Some-clause-taken c =
    let point = c.in-Some.point in
    let known = c.self.inside.ahead.items in
    let read = sym c.last.ensures.value ∙ (sym c.copied.ensures ∙ c.in-Some.is) in
    let at = subst (λ points. slice_get points (length points - 1) ≡ Some point) c.deref.ensures.value read in
    let within = slice_get_within known (length known - 1) point at in
    let len = c.self.inside.ahead.ok.0 in
    let at_len = subst (λ n. slice_get known (n - 1) ≡ Some point) (sym len) at in
    let there = get_or_from_slice_get known (c.self.inside.ahead.len - 1) point point at_len in
    let out = c.pop.ensures.value point (omega (arith, within, len)) ∙ ap Some there in
    rw (← c.self.view_is) (inl (last_taken known _ _ point c.pop.ensures.items out))

pub returns-in_default-clause-taken : goal.returns-in_default-clause-taken
returns-in_default-clause-taken c =
    let known = c.self.inside.ahead.items in
    rw (← c.self.view_is) (IfOk-weaker c.new_point.result (λ point. point.price ≡ _) (λ point. IsTaken known point known)
    (λ point named. inr refl) c.new_point.ensures.price)
