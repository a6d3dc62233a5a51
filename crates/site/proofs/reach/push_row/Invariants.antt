use Rattle.site.proofs.Words.{reaches_within}
use Rattle.std.proofs.Common.{map, take, ◌++◌, ◌≡◌}
use Rattle.site.proofs.reach.push_row.Given as goal

abbrev pub invariant-loop-part : goal.invariant-loop-part
invariant-loop-part l =
    l.cells.items ≡ l.initial.cells.items ++ map (reaches_within l.site l.plants l.fn.hot) (take l.part-index l.cold)
