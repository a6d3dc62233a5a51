use Rattle.heat_flow.proofs.ReachLemmas.{reaches-among}
use Rattle.std.proofs.Common.{arith}
use Rattle.heat_flow.proofs.support.is_supported.Goals as goal

pub are_supporting-requires-clause-parts : goal.are_supporting-requires-clause-parts
are_supporting-requires-clause-parts c = reaches-among c.args.reach.now _ _ (omega arith) (omega arith)
