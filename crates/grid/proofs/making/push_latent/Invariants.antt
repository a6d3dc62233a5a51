use Rattle.grid.proofs.Words.{picked, stands_at, stream_part}
use Rattle.std.proofs.Common.{take, ◌++◌, ◌≡◌}
use Rattle.grid.proofs.making.push_latent.Given as goal

abbrev pub invariant-loop-index : goal.invariant-loop-index
invariant-loop-index l =
    l.parts.items
    ≡ l.initial.parts.items
    ++ picked (stands_at l.side l.place) (stream_part l.place l.place) 0 (take l.index l.streams)
