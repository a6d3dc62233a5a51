use Rattle.std.proofs.Common.{arith, pos}
use Rattle.vertical_design.proofs.Words.{int_sum_by-more, ints}
use Rattle.vertical_design.proofs.FlowLimits.{sum-so_far}
use Rattle.vertical_design.proofs.flows.sum_of.Goals as goal

pub overflow_add-sum : goal.overflow_add-sum
overflow_add-sum c =
    let so_far = sum-so_far c.args.flows.now c.loop-flow.flow-index c.requires.each c.requires.few in
    let here = c.requires.each c.loop-flow.flow-index (pos 0) c.loop-flow-test.true in
    omega (arith, ints)

pub loop-flow-preserved : goal.loop-flow-preserved
loop-flow-preserved c =
    let so_far = sum-so_far c.args.flows.now c.loop-flow.flow-index c.requires.each c.requires.few in
    let here = c.requires.each c.loop-flow.flow-index (pos 0) c.loop-flow-test.true in
    let step = int_sum_by-more (λ f. f) c.args.flows.now c.loop-flow.flow-index (pos 0) c.loop-flow-test.true in
    let sum = c.loop-flow.invariant in
    omega (arith, ints)

pub returns-clause-range : goal.returns-clause-range
returns-clause-range c =
    let so_far = sum-so_far c.args.flows.now c.loop-flow.flow-index c.requires.each c.requires.few in
    record { from = omega (arith, ints); upto = omega (arith, ints) }
