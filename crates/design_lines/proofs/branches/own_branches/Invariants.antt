use Rattle.design_lines.proofs.Words.{enumerate_from, own_branch}
use Rattle.std.proofs.Common.{map, take, ◌≡◌}
use Rattle.design_lines.proofs.branches.own_branches.Given as goal

abbrev pub invariant-loop-index : goal.invariant-loop-index
invariant-loop-index l = l.branches.items ≡ map own_branch (enumerate_from 0 (take l.index l.stream-items))
