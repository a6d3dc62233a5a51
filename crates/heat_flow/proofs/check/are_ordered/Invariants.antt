use Rattle.heat_flow.proofs.Words.{Transfer, precedes}
use Rattle.std.proofs.Common.{get_or, ℕ, ◌<◌}
use Rattle.heat_flow.proofs.check.are_ordered.Given as goal

abbrev pub invariant-loop-i : goal.invariant-loop-i
invariant-loop-i l =
    (j k : ℕ) (d : Transfer) → j < k → k < l.i → precedes (get_or l.transfers j d) (get_or l.transfers k d)
