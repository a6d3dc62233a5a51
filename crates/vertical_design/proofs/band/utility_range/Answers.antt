-- The hot target is a heat of streams.
use Rattle.vertical_design.proofs.Words.{hot_target-between, ints}
use Rattle.std.proofs.Common.{arith}
use Rattle.vertical_design.proofs.band.utility_range.Goals as goal

pub overflow_add-result : goal.overflow_add-result
overflow_add-result c =
    let target = hot_target-between c.args.streams.now c.requires.streams in
    omega (arith, ints)

pub returns-in-Hot-clause-to : goal.returns-in-Hot-clause-to
returns-in-Hot-clause-to c =
    let target = hot_target-between c.args.streams.now c.requires.streams in
    let side = c.in-Hot.is in
    rw side (omega (arith, ints))
