use Rattle.site.proofs.Words.{IsPlantHeat, raised, stream_ends, streams_of}
use Rattle.std.proofs.Common.{fold, take, ◌≡◌}
use Rattle.site.proofs.profiles.raised_by_plants.Given as goal

abbrev pub invariant-loop-plant : goal.invariant-loop-plant
invariant-loop-plant l = record {
  value : l.greatest ≡ fold (raised l.direction l.t l.fn.streams) l.so_far (stream_ends (streams_of (take l.plant-index l.plants)));
  range : IsPlantHeat l.greatest;
}
