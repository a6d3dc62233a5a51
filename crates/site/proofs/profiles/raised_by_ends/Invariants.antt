use Rattle.site.proofs.Words.{IsPlantHeat, raised, stream_ends}
use Rattle.std.proofs.Common.{fold, take, ◌≡◌}
use Rattle.site.proofs.profiles.raised_by_ends.Given as goal

abbrev pub invariant-loop-stream : goal.invariant-loop-stream
invariant-loop-stream l = record {
  value : l.greatest ≡ fold (raised l.direction l.t l.fn.streams) l.so_far (stream_ends (take l.stream-index l.others));
  range : IsPlantHeat l.greatest;
}
