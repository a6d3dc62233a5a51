use Rattle.std.proofs.Common.{map, take, ◌++◌, ◌≡◌}
use Rattle.vertical_design.proofs.Words.{match_of}
use Rattle.vertical_design.proofs.matches.push_matches.Given as goal

abbrev pub invariant-loop-pair : goal.invariant-loop-pair
invariant-loop-pair l =
    l.exchanges.items
    ≡ l.fn.exchanges.items ++ map (match_of l.number l.low l.high l.hot l.cold) (take l.pair-index l.pair-items)
