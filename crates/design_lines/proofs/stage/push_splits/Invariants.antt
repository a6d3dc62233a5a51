use Rattle.design_lines.proofs.Words.{rest_branch, splits}
use Rattle.std.proofs.Common.{drop, ◌*◌, ◌++◌, ◌+◌, ◌≡◌}
use Rattle.design_lines.proofs.stage.push_splits.Given as goal

abbrev pub invariant-loop-index : goal.invariant-loop-index
invariant-loop-index l = record {
  lines : l.lines.items ++ splits l.free l.rest (drop l.index l.shares)
      ≡ l.fn.lines.items ++ splits l.next l.from l.shares;
  left : rest_branch l.free l.rest (drop l.index l.shares) ≡ rest_branch l.next l.from l.shares;
  numbered : l.free ≡ l.next + 2 * l.index;
}
