use Rattle.heat_flow.proofs.LoopSums.{SumSoFar}
use Rattle.heat_flow.proofs.Words.{MOST_HEAT, least_at}
use Rattle.heat_flow.proofs.cut_check.need_of.Given as goal

abbrev pub invariant-loop-member : goal.invariant-loop-member
invariant-loop-member l = SumSoFar (λ i m. least_at l.parts m) MOST_HEAT l.members l.member-index l.need
