use Rattle.design_lines.proofs.Words.{numbered}
use Rattle.std.proofs.Common.{◌++◌, ◌-◌, ◌≡◌}
use Rattle.design_lines.proofs.branches.push_branches.Given as goal

abbrev pub invariant-loop-number : goal.invariant-loop-number
invariant-loop-number l = l.branches.items ≡ l.fn.branches.items ++ numbered l.first l.stream (l.number - l.first)
