use Rattle.design_lines.proofs.DrawSteps.{passes_from}
use Rattle.design_lines.proofs.Words.{behind_splits}
use Rattle.std.proofs.Common.{drop, length, ◌*◌, ◌++◌, ◌+◌, ◌-◌, ◌≡◌}
use Rattle.design_lines.proofs.stage.push_passes.Given as goal

abbrev pub invariant-loop-index : goal.invariant-loop-index
invariant-loop-index l = record {
  lines : l.lines.items ++ passes_from l.to l.branch l.rest (drop l.index l.shares) ≡ l.fn.lines.items ++ passes_from
      (behind_splits l.next l.shares) l.next l.rest l.shares;
  numbered : l.branch ≡ l.next + 2 * l.index;
  made : l.to ≡ l.next + 2 * (length l.shares - 1) + l.index;
}
