use Rattle.std.proofs.Common.{map, take, ◌≡◌}
use Rattle.vertical_design.proofs.Words.{◌*ℤ◌}
use Rattle.vertical_design.proofs.flows.scaled.Given as goal

abbrev pub invariant-loop-flow : goal.invariant-loop-flow
invariant-loop-flow l = l.amounts.items ≡ map (λ f. f *ℤ l.by) (take l.flow-index l.flows)
