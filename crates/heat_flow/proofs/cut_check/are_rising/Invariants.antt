use Rattle.heat_flow.proofs.CheckLemmas.{AllPairsBelow}
use Rattle.std.proofs.Common.{◌<◌}
use Rattle.heat_flow.proofs.cut_check.are_rising.Given as goal

abbrev pub invariant-loop-i : goal.invariant-loop-i
invariant-loop-i l = AllPairsBelow (λ a b. a < b) l.members l.i
