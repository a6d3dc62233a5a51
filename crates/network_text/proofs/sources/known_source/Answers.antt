use Rattle.std.proofs.Common.{arith}
use Rattle.network_text.proofs.Words.{StaysValid-IsComplete, length-AreStreams}
use Rattle.network_text.proofs.sources.known_source.Goals as goal

pub source_named-requires-clause-few_streams : goal.source_named-requires-clause-few_streams
source_named-requires-clause-few_streams c =
    let stays = StaysValid-IsComplete c.args.case.now c.requires in
    omega (arith, length-AreStreams c.args.case.now.streams stays.streams.are_streams)

pub source_named-requires-clause-few_utilities : goal.source_named-requires-clause-few_utilities
source_named-requires-clause-few_utilities c =
    let stays = StaysValid-IsComplete c.args.case.now c.requires in
    omega (arith, stays.few_utilities)
