use Rattle.transport.proofs.Words.{MOST_HEAT, SumSoFar, cut_side, if◌then◌else◌, meets, opposite, parts_of, pos, reach_between}
use Rattle.transport.proofs.offer.case_offer.Given as goal

abbrev pub invariant-loop-index : goal.invariant-loop-index
invariant-loop-index l =
    SumSoFar (λ j p. if meets (cut_side l.members.kind) (reach_between l.case l.parts.hot l.parts.cold) l.members.indexes j then p.most else pos 0) MOST_HEAT
    (parts_of (opposite (cut_side l.members.kind)) l.parts.hot l.parts.cold) l.index l.offer
