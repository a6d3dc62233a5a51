use Rattle.std.proofs.Common.{sym, subst}
use Rattle.study.proofs.Words.{All, All-push, IsPoint}
use Rattle.study.proofs.CostCurves.{with_points}
use Rattle.study.proofs.cost_curve.CostCurve.keep.Goals as goal

pub invariant_of-self-2 : goal.invariant_of-self-2
invariant_of-self-2 c =
    let is = IsPoint c.self.inside.priced.case.now c.self.inside.utility in
    let point = rw (← c.self.view_is) at c.requires in
    let points = All-push is _ c.args.point c.self.invariant.points point in
    with_points _ _ _ _ c.self.invariant (subst (All is) (sym c.in_ok-push.ensures.items) points)
