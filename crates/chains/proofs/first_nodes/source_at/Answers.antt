use Rattle.chains.proofs.Words.{AreStreams-IsComplete, length-AreStreams}
use Rattle.std.proofs.Common.{arith}
use Rattle.chains.proofs.first_nodes.source_at.Goals as goal

pub overflow_cast-result : goal.overflow_cast-result
overflow_cast-result c =
    let few = length-AreStreams c.args.case.now.streams (AreStreams-IsComplete c.args.case.now c.requires.complete) in
    omega (arith, few, c.len-streams.ensures)
