use Rattle.pieces.proofs.Words.{enumerate_from, filter_map, stage_of}
use Rattle.std.proofs.Common.{take, ◌≡◌}
use Rattle.pieces.proofs.courses.course_of.Given as goal

abbrev pub invariant-loop-index : goal.invariant-loop-index
invariant-loop-index l =
    l.stages.items ≡ filter_map (stage_of l.side l.exchanges l.stream) (enumerate_from 0 (take l.index l.sources))
