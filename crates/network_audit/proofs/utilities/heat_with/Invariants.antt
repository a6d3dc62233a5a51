use Rattle.network_audit.proofs.SumSteps.{IsSummed}
use Rattle.network_audit.proofs.Words.{duties_in}
use Rattle.std.proofs.Common.{take, ◌≤◌}
use Rattle.network_audit.proofs.utilities.heat_with.Given as goal

abbrev pub invariant-loop-joint : goal.invariant-loop-joint
invariant-loop-joint l =
    record { few : l.sum.steps ≤ l.joint-index; summed : IsSummed 0 (duties_in (take l.joint-index l.joints) l.index) l.sum.total l.sum.steps }
