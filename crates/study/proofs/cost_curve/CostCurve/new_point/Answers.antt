use Rattle.study.proofs.cost_curve.CostCurve.new_point.Goals as goal

pub unreachable-requires : goal.unreachable-requires
unreachable-requires c =
    let none = rw c.in-None.is at c.in_ok-cost.ensures.cost in
    c.self.invariant.flow _ none
