use Rattle.chains.proofs.DepthLemmas.{IsMarked}
use Rattle.std.proofs.Common.{take}
use Rattle.chains.proofs.depths.mark.Given as goal

abbrev pub invariant-loop-rank : goal.invariant-loop-rank
invariant-loop-rank l = IsMarked l.initial.used (take l.rank-index l.ranks) l.used
