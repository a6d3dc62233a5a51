use Rattle.grid.proofs.Words.{covers, picked, stream_part}
use Rattle.std.proofs.Common.{take, ◌++◌, ◌≡◌}
use Rattle.grid.proofs.making.push_streams.Given as goal

abbrev pub invariant-loop-index : goal.invariant-loop-index
invariant-loop-index l =
    l.parts.items
    ≡ l.initial.parts.items ++ picked (covers l.side l.high l.low) (stream_part l.high l.low) 0 (take l.index l.streams)
