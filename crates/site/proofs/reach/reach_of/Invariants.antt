use Rattle.site.proofs.ReachLemmas.{cell_rows}
use Rattle.std.proofs.Common.{take, ◌≡◌}
use Rattle.site.proofs.reach.reach_of.Given as goal

abbrev pub invariant-loop-part : goal.invariant-loop-part
invariant-loop-part l = l.cells.items ≡ cell_rows l.site (take l.part-index l.hot) l.cold
