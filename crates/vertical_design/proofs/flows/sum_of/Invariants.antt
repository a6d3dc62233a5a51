use Rattle.std.proofs.Common.{take, ◌≡◌}
use Rattle.vertical_design.proofs.Words.{int_sum_by}
use Rattle.vertical_design.proofs.flows.sum_of.Given as goal

abbrev pub invariant-loop-flow : goal.invariant-loop-flow
invariant-loop-flow l = l.sum ≡ int_sum_by (λ f. f) (take l.flow-index l.flows)
