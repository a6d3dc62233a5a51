use Rattle.heat_flow.proofs.Words.{heat_of_utility, int_sum_by, neg_ℤ, pos, ◌≤ℤ◌}
use Rattle.std.proofs.Common.{take, ◌*◌, ◌^◌, ◌≡◌}
use Rattle.heat_flow.proofs.utilities.utility_heat.Given as goal

abbrev pub invariant-loop-transfer : goal.invariant-loop-transfer
invariant-loop-transfer l =
    (l.total ≡ int_sum_by (heat_of_utility l.index l.side l.parts) (take l.transfer-index l.transfers))
    × (neg_ℤ (pos (l.transfer-index * 2 ^ 63)) ≤ℤ l.total)
    × (l.total ≤ℤ pos (l.transfer-index * 2 ^ 63))
