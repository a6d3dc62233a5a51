use Rattle.pieces.proofs.Words.{enumerate_from, filter_map, own_share}
use Rattle.std.proofs.Common.{take, ◌≡◌}
use Rattle.pieces.proofs.courses.own_shares.Given as goal

abbrev pub invariant-loop-number : goal.invariant-loop-number
invariant-loop-number l =
    l.own.items ≡ filter_map (own_share l.side l.sources l.stream) (enumerate_from 0 (take l.number l.exchanges))
