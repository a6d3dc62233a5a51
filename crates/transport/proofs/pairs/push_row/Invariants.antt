use Rattle.std.proofs.Common.{◌++◌, ◌≡◌}
use Rattle.transport.proofs.Words.{flat_map, link_between, range_with_len}
use Rattle.transport.proofs.pairs.push_row.Given as goal

abbrev pub invariant-loop-cold : goal.invariant-loop-cold
invariant-loop-cold l =
    l.links.items ≡ l.initial.links.items ++ flat_map (link_between l.reach l.fn.hot) (range_with_len 0 l.cold)
