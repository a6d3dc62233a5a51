use Rattle.heat_flow.proofs.LoopSums.{SumSoFar}
use Rattle.heat_flow.proofs.Words.{MOST_HEAT, if◌then◌else◌, meets, pos}
use Rattle.heat_flow.proofs.cut_check.offer_of.Given as goal

abbrev pub invariant-loop-index : goal.invariant-loop-index
invariant-loop-index g l =
    SumSoFar (λ j p. if meets l.side (g.R.Reaches.reach l.reach) l.members j then p.most else pos 0) MOST_HEAT l.others l.index l.offer
