use Rattle.design_lines.proofs.Words.{mixes}
use Rattle.std.proofs.Common.{◌++◌, ◌+◌, ◌-◌, ◌≡◌}
use Rattle.design_lines.proofs.stage.push_mixes.Given as goal

abbrev pub invariant-loop-index : goal.invariant-loop-index
invariant-loop-index l = l.lines.items ++ mixes (l.count - l.index) (l.behind + l.count + 1 + l.index) l.first
    (l.behind + 1 + l.index) ≡ l.fn.lines.items ++ mixes l.count (l.behind + l.count + 1) l.behind (l.behind + 1)
