use Rattle.reports.proofs.Words.{stream_names}
use Rattle.std.proofs.Common.{take, ◌++◌, ◌≡◌}
use Rattle.reports.proofs.names.push_names.Given as goal

abbrev pub invariant-loop-stream : goal.invariant-loop-stream
invariant-loop-stream l = l.names ≡ l.initial.names ++ stream_names (take l.stream-index l.streams)
