use Rattle.site.proofs.ProfileLemmas.{plant_profile-from}
use Rattle.site.proofs.Words.{raised, to_z-of_z}
use Rattle.std.proofs.Common.{of_z, rules, to_z, w32, w64, ◌∙◌}
use Rattle.site.proofs.profiles.plant_profile.Goals as goal

pub returns-clause-value : goal.returns-clause-value
returns-clause-value c =
    let t = to_z w32 (of_z w32 c.args.t) in
    let look = raised c.args.direction t c.as_slice-streams.result.now in
    let at_t = to_z-of_z w64 c.raised-at_t.result (search rules) in
    let at_ends = to_z-of_z w64 c.raised_by_plants-at_ends.result (search rules) in
    let all = to_z-of_z w64 c.raised_by_mains.result (search rules) in
    plant_profile-from c.args.direction c.args.t t c.args.site.now c.args.plant.now c.as_slice-streams.result.now c.as_slice.result.now
    c.as_slice-mains.result.now (to_z w32 (of_z w32 c.args.site.now.contribution)) _ _ _
    (to_z-of_z w32 c.args.t c.ranges.t) c.as_slice-streams.ensures c.as_slice.ensures c.as_slice-mains.ensures
    (to_z-of_z w32 c.args.site.now.contribution (search rules))
    (at_t ∙ c.raised-at_t.ensures.value) (at_ends ∙ c.raised_by_plants-at_ends.ensures.value) (all ∙ c.raised_by_mains.ensures.value)
