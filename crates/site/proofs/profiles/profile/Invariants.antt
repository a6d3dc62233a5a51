use Rattle.site.proofs.Words.{ALL_STREAMS_HEAT, int_sum_by, plant_profile, site_places, unsigned_abs}
use Rattle.std.proofs.Common.{pos, take, ◌*◌, ◌≡◌, ◌≤ℤ◌}
use Rattle.site.proofs.profiles.profile.Given as goal

abbrev pub invariant-loop-plant : goal.invariant-loop-plant
invariant-loop-plant l = record {
  value : l.heat ≡ int_sum_by (plant_profile l.direction (site_places l.site) l.t) (take l.plant-index l.plants);
  from : pos 0 ≤ℤ l.heat;
  upto : l.heat ≤ℤ pos (l.plant-index * (2 * unsigned_abs ALL_STREAMS_HEAT));
}
