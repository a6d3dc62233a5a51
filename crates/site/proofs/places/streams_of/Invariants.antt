use Rattle.site.proofs.Words.{streams_of}
use Rattle.std.proofs.Common.{take, ◌≡◌}
use Rattle.site.proofs.places.streams_of.Given as goal

abbrev pub invariant-loop-plant : goal.invariant-loop-plant
invariant-loop-plant l = l.streams.items ≡ streams_of (take l.plant-index l.plants)
