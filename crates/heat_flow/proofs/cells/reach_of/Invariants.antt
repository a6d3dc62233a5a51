use Rattle.heat_flow.proofs.ReachLemmas.{cell_rows}
use Rattle.std.proofs.Common.{take, ◌≡◌}
use Rattle.heat_flow.proofs.cells.reach_of.Given as goal

abbrev pub invariant-loop-part : goal.invariant-loop-part
invariant-loop-part l = l.cells.items ≡ cell_rows l.case (take l.part-index l.hot) l.cold
