-- Each found end is a pinch, and each pinch among the ends so far was found.
use Rattle.problem_table.proofs.DeficitLemmas.{Finds}
use Rattle.std.proofs.Common.{take}
use Rattle.problem_table.proofs.pinch.pinches_at.Given as goal

abbrev pub invariant-loop-end : goal.invariant-loop-end
invariant-loop-end l = Finds l.streams (take l.end-index l.ends) l.found.items
