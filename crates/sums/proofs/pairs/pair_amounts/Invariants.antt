use Rattle.sums.proofs.WalkLemmas.{IsWalk, still_left}
use Rattle.sums.proofs.pairs.pair_amounts.Given as goal

abbrev pub invariant-loop-first : goal.invariant-loop-first
invariant-loop-first l = IsWalk l.firsts l.seconds l.first l.second l.pairs.items

abbrev pub decreases-loop-first : goal.decreases-loop-first
decreases-loop-first l = still_left l.firsts l.seconds l.first l.second
