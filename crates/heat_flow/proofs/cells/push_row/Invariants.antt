use Rattle.heat_flow.proofs.Words.{part_reaches}
use Rattle.std.proofs.Common.{map, take, ◌++◌, ◌≡◌}
use Rattle.heat_flow.proofs.cells.push_row.Given as goal

abbrev pub invariant-loop-part : goal.invariant-loop-part
invariant-loop-part l =
    l.cells.items ≡ l.initial.cells.items ++ map (part_reaches l.case l.fn.hot) (take l.part-index l.cold)
