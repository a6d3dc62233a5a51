use Rattle.std.proofs.Common.{pos, ◌≤ℤ◌}
use Rattle.flow_problem.proofs.problem.read.Given as goal

abbrev pub invariant-loop-line : goal.invariant-loop-line
invariant-loop-line l = pos 0 ≤ℤ l.problem.amount
