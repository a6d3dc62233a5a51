use Rattle.std.proofs.Common.{arith}
use Rattle.flow_problem.proofs.Words.{ints}
use Rattle.flow_problem.proofs.answer.reduced_cost.Goals as goal

pub returns : goal.returns
returns c =
    let from = c.potential_at-from.ensures in
    let to = c.potential_at-to.ensures in
    omega (arith, ints)
