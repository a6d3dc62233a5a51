use Rattle.std.proofs.Common.{get_or, map, take, ◌≡◌}
use Rattle.chains.proofs.depths.at_ranks.Given as goal

abbrev pub invariant-loop-rank : goal.invariant-loop-rank
invariant-loop-rank l = l.found.items ≡ map (λ rank. get_or l.above rank 0) (take l.rank-index l.ranks)
