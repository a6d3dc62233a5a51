use Rattle.network_audit.proofs.SumSteps.{IsPriced}
use Rattle.network_audit.proofs.Words.{enumerate_from, price_in}
use Rattle.std.proofs.Common.{map, take, ◌*◌, ◌+◌, ◌≤◌}
use Rattle.network_audit.proofs.balance.cost_of.Given as goal

abbrev pub invariant-loop-index : goal.invariant-loop-index
invariant-loop-index l = record {
  few : l.cost.steps ≤ l.before + 2 * l.index;
  priced : IsPriced l.before (map (price_in l.heats) (take l.index (enumerate_from 0 l.utilities))) l.cost.total l.cost.steps;
}
