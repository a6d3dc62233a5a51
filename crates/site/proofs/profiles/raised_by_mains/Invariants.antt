use Rattle.site.proofs.Words.{IsPlantHeat, main_places, raised}
use Rattle.std.proofs.Common.{fold, take, ◌≡◌}
use Rattle.site.proofs.profiles.raised_by_mains.Given as goal

abbrev pub invariant-loop-main : goal.invariant-loop-main
invariant-loop-main l = record {
  value : l.greatest ≡ fold (raised l.direction l.t l.fn.streams) l.so_far (main_places l.contribution (take l.main-index l.mains));
  range : IsPlantHeat l.greatest;
}
