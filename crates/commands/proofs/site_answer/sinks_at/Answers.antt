use Rattle.commands.proofs.Profiles.{one_more}
use Rattle.commands.proofs.Words.{sink_profile, to_z-of_z}
use Rattle.std.proofs.Common.{FitsSigned, ap, get_or, pos, rules, w32, w64, ◌∙◌}
use Rattle.commands.proofs.site_answer.sinks_at.Goals as goal

pub loop-place-preserved : goal.loop-place-preserved
loop-place-preserved c =
    let heat = sink_profile c.args.site.now in
    let place = get_or c.args.places.now c.loop-place.place-index (pos 0) in
    let place_fits : FitsSigned w32 place = search rules in
    let heat_fits : FitsSigned w64 c.sink_profile.result = search rules in
    let is = to_z-of_z w64 c.sink_profile.result heat_fits ∙ c.sink_profile.ensures
    ∙ ap heat (to_z-of_z w32 place place_fits) in
    c.in_ok-push.ensures.ok ∙ one_more heat c.args.places.now c.loop-place.heats c.loop-place.place-index _ c.loop-place-test.true c.loop-place.invariant is
