use Rattle.site.proofs.Words.{plants_from}
use Rattle.std.proofs.Common.{take, ◌≡◌}
use Rattle.site.proofs.reach.stream_plants.Given as goal

abbrev pub invariant-loop-index : goal.invariant-loop-index
invariant-loop-index l = l.indexes.items ≡ plants_from 0 (take l.index l.plants)
