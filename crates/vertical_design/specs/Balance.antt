-- The balance of a network that takes no more heat from outside than its case needs.
use Rattle.stream_case.specs.declared.case.Case.{Case}
use Rattle.fractions.specs.Rationals.{rational_zero, whole}
use Rattle.problem_table.specs.Deficit.{cold_target, hot_target}
use Rattle.network_audit.specs.declared.verdict.Balance.{Balance}

-- the hot utilities give the hot target, and the cold ones take the cold target; where a watt of hot utility costs 1
-- and one of cold utility nothing, the hot target is also the cost
abbrev pub target_balance : Case → Balance
target_balance case = record {
  hot = whole (hot_target case.streams);
  cold = whole (cold_target case.streams);
  excess = rational_zero;
  cost = whole (hot_target case.streams);
}
