use Rattle.flow_problem.proofs.Words.{range_with_len, start_at}
use Rattle.std.proofs.Common.{map, ◌≡◌}
use Rattle.flow_problem.proofs.problem.Problem.start.Given as goal

abbrev pub invariant-loop-node : goal.invariant-loop-node
invariant-loop-node l = l.start ≡ map (start_at l.self) (range_with_len 0 l.node)
