use Rattle.std.proofs.Common.{take, ◌++◌, ◌≡◌}
use Rattle.vertical_design.proofs.Words.{enumerate_from, filter_map, stream_band}
use Rattle.vertical_design.proofs.band.push_streams.Given as goal

abbrev pub invariant-loop-number : goal.invariant-loop-number
invariant-loop-number l =
    l.bands.items
    ≡ l.fn.bands.items ++ filter_map (stream_band l.side l.streams) (enumerate_from 0 (take l.number l.streams))
