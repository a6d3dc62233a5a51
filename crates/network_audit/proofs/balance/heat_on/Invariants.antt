use Rattle.network_audit.proofs.SumSteps.{IsSummed}
use Rattle.network_audit.proofs.Words.{enumerate_from, filter_map, heat_on_in}
use Rattle.std.proofs.Common.{take, ◌+◌, ◌≤◌}
use Rattle.network_audit.proofs.balance.heat_on.Given as goal

abbrev pub invariant-loop-index : goal.invariant-loop-index
invariant-loop-index l = record {
  few : l.sum.steps ≤ l.before + l.index;
  summed : IsSummed l.before (filter_map (heat_on_in l.side l.heats) (take l.index (enumerate_from 0 l.utilities))) l.sum.total l.sum.steps;
}
