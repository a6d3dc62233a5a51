-- A plant more.
use Rattle.site_text.proofs.SiteLemmas.{ArePlantStreams-site}
use Rattle.site.proofs.Words.{ALL_STREAMS_HEAT, All, ArePlantStreams, Plant, int_sum_by, int_sum_by-more, ints, plant_profile, site_places, unsigned_abs}
use Rattle.site.proofs.Words.{◌+ℤ◌, ◌≤ℤ◌}
use Rattle.std.proofs.Common.{List, ap, arith, length, of_z, pos, subst, sym, take, to_z, w32, w64, ◌*◌, ◌+◌, ◌∙◌, ◌≡◌}
use Rattle.site.proofs.profiles.profile.Goals as goal

pub plant_profile-heat-requires-clause-streams : goal.plant_profile-heat-requires-clause-streams
plant_profile-heat-requires-clause-streams c =
    let each = subst (All (λ (p : Plant). ArePlantStreams p.streams)) (sym c.as_slice-plants.ensures) (ArePlantStreams-site c.args.site.now c.requires) in
    subst (λ (p : Plant). ArePlantStreams p.streams) (sym c.plant-item.is) (each c.loop-plant.plant-index c.plant-item.result c.loop-plant-test.true)

pub loop-plant-preserved : goal.loop-plant-preserved
loop-plant-preserved c =
    let of_plant = plant_profile c.args.direction (site_places c.args.site.now) (to_z w32 (of_z w32 c.args.t)) in
    let plants = c.as_slice-plants.result.now in
    let i = c.loop-plant.plant-index in
    let heat = to_z w64 (of_z w64 (to_z w64 c.loop-plant.heat-bits +ℤ to_z w64 (of_z w64 c.plant_profile-heat.result))) in
    let step = int_sum_by-more of_plant plants i c.plant-item.result c.loop-plant-test.true in
    let term = c.plant_profile-heat.ensures.value ∙ ap of_plant c.plant-item.is in
    let range = c.plant_profile-heat.ensures.range in
    let few = ap (λ (ps : List Plant). length ps) c.as_slice-plants.ensures in
    let most = c.requires.plants.few in
    let so_far = c.loop-plant.invariant in
    let value : heat ≡ int_sum_by of_plant (take (i + 1) plants)
    = omega (arith, ints, range, few, most, so_far.value, so_far.from, so_far.upto) in
    let from : pos 0 ≤ℤ heat = omega (arith, ints, range, few, most, so_far.from, so_far.upto) in
    let upto : heat ≤ℤ pos ((i + 1) * (2 * unsigned_abs ALL_STREAMS_HEAT))
    = omega (arith, ints, range, few, most, so_far.from, so_far.upto) in
    record { value = value; from = from; upto = upto }
