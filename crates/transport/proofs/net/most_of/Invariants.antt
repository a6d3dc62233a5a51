use Rattle.std.proofs.Common.{take, ◌≡◌}
use Rattle.transport.proofs.Words.{MOST_HEAT, most_of, pos, ◌*ℤ◌, ◌≤ℤ◌}
use Rattle.transport.proofs.net.most_of.Given as goal

abbrev pub invariant-loop-part : goal.invariant-loop-part
invariant-loop-part l =
    record { sum : l.most ≡ most_of (take l.part-index l.parts); from : pos 0 ≤ℤ l.most; upto : l.most ≤ℤ (pos l.part-index *ℤ MOST_HEAT) }
