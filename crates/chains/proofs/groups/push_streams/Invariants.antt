use Rattle.chains.proofs.Words.{streams_on}
use Rattle.std.proofs.Common.{take, ◌++◌, ◌≡◌}
use Rattle.chains.proofs.groups.push_streams.Given as goal

abbrev pub invariant-loop-index : goal.invariant-loop-index
invariant-loop-index l = l.sources.items ≡ l.initial.sources.items ++ streams_on l.side (take l.index l.streams)
