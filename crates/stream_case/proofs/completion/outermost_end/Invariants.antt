use Rattle.std.proofs.Common.{fold, take, ◌≡◌}
use Rattle.stream_case.proofs.Words.{outer_of, stream_ends}
use Rattle.stream_case.proofs.completion.outermost_end.Given as goal

abbrev pub invariant-loop-stream : goal.invariant-loop-stream
invariant-loop-stream l =
    l.outermost ≡ fold (outer_of l.side) l.initial.outermost (stream_ends (take l.stream-index l.streams))
