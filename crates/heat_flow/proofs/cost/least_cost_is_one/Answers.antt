use Rattle.std.proofs.Common.{arith}
use Rattle.heat_flow.proofs.Words.{ints}
use Rattle.heat_flow.proofs.cost.least_cost_is_one.Goals as goal

pub returns : goal.returns
returns c reach hot cold cost other one two =
    let up = one.least two.transfers two.flow in
    let down = two.least one.transfers one.flow in
    omega (arith, ints, one.costs, two.costs)
