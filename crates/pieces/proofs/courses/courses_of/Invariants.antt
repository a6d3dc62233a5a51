use Rattle.pieces.proofs.Words.{enumerate_from, stream_course}
use Rattle.std.proofs.Common.{map, take, ◌≡◌}
use Rattle.pieces.proofs.courses.courses_of.Given as goal

abbrev pub invariant-loop-number : goal.invariant-loop-number
invariant-loop-number l =
    l.courses.items ≡ map (stream_course l.hot l.cold l.exchanges) (enumerate_from 0 (take l.number l.case.streams))
