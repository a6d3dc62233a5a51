-- Above the least number lie all heats.
use Rattle.problem_table.proofs.DeficitLemmas.{cold_target-between, cold_target-lowest}
use Rattle.std.proofs.Common.{arith, negsuc, subst, sym}
use Rattle.problem_table.proofs.Words.{IsStreamsHeat, ints}
use Rattle.problem_table.proofs.target.targets_of.Goals as goal

pub returns-clause-cold : goal.returns-clause-cold
returns-clause-cold c =
    let lowest = cold_target-lowest (negsuc 2147483647) c.args.streams.now c.requires (omega (arith, ints)) in
    omega (arith, ints)

pub returns-clause-cold_range : goal.returns-clause-cold_range
returns-clause-cold_range c =
    subst IsStreamsHeat (sym (returns-clause-cold c)) (cold_target-between c.args.streams.now c.requires)
