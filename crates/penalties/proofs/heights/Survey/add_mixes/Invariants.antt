use Rattle.penalties.proofs.Words.{enumerate_from, filter_map, first_finding, items_of, line_steps, mix_row, seen_height, seen_steps}
use Rattle.std.proofs.Common.{None, take, ◌++◌, ◌≡◌}
use Rattle.penalties.proofs.heights.Survey.add_mixes.Given as goal

abbrev pub invariant-loop-index : goal.invariant-loop-index
invariant-loop-index l =
    (first_finding (items_of (line_steps (seen_height l.self) (seen_steps l.self)) l.lines l.index) ≡ None)
    × (l.list.items ≡ l.initial.list.items ++ filter_map (mix_row (seen_height l.self)) (enumerate_from 0 (take l.index l.lines)))
