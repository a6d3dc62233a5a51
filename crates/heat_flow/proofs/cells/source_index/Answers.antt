use Rattle.std.proofs.Common.{arith}
use Rattle.heat_flow.proofs.Words.{AreStreams-IsComplete, length-AreStreams}
use Rattle.heat_flow.proofs.cells.source_index.Goals as goal

pub overflow_add-result : goal.overflow_add-result
overflow_add-result c =
    omega (arith, c.len.ensures, length-AreStreams c.args.case.now.streams (AreStreams-IsComplete c.args.case.now c.requires.complete))
