use Rattle.heat_flow.proofs.CheckLemmas.{AreHeats}
use Rattle.std.proofs.Common.{take, ◌*◌, ◌^◌}
use Rattle.heat_flow.proofs.Words.{All, IsBetween, pos}
use Rattle.heat_flow.proofs.check.add_heats.Given as goal

abbrev pub invariant-loop-transfer : goal.invariant-loop-transfer
invariant-loop-transfer l =
    record { sum : AreHeats l.side (take l.transfer-index l.transfers) l.sums; range : All (IsBetween (pos 0) (pos (l.transfer-index * 2 ^ 63))) l.sums }
