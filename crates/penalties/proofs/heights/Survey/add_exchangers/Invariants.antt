use Rattle.penalties.proofs.Words.{enumerate_from, first_finding, items_of, joint_row, joint_steps, seen_height, seen_steps}
use Rattle.std.proofs.Common.{None, map, take, ◌++◌, ◌≡◌}
use Rattle.penalties.proofs.heights.Survey.add_exchangers.Given as goal

abbrev pub invariant-loop-number : goal.invariant-loop-number
invariant-loop-number l =
    (first_finding (items_of (joint_steps (seen_height l.self) (seen_steps l.self)) l.joints l.number) ≡ None)
    × (l.list.items ≡ l.initial.list.items ++ map (joint_row (seen_height l.self)) (enumerate_from 0 (take l.number l.joints)))
