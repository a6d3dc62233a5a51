-- Each main brings its two places.
use Rattle.site.proofs.ProfileLemmas.{raised-mains}
use Rattle.site.proofs.Words.{IsPlantHeat, gives_at, raised, takes_at, to_z-of_z}
use Rattle.std.proofs.Common.{ap, ap₂, of_z, rules, subst, sym, to_z, w32, w64, ◌∙◌}
use Rattle.site.proofs.profiles.raised_by_mains.Goals as goal

pub loop-main-preserved : goal.loop-main-preserved
loop-main-preserved c =
    let t = to_z w32 (of_z w32 c.args.t) in
    let contribution = to_z w32 (of_z w32 c.args.contribution) in
    let main = c.main-item.result in
    let look = raised c.args.direction t c.args.streams.now in
    let takes = to_z-of_z w32 c.takes_at.result (search rules) ∙ c.takes_at.ensures in
    let gives = to_z-of_z w32 c.gives_at.result (search rules) ∙ c.gives_at.ensures in
    let first = to_z-of_z w64 c.raised-greatest.result (search rules) ∙ c.raised-greatest.ensures.value
    ∙ ap (look (to_z w64 c.loop-main.greatest-bits)) takes in
    let second = to_z-of_z w64 c.raised-greatest-in-loop-main.result (search rules) in
    record {
      value = second ∙ c.raised-greatest-in-loop-main.ensures.value ∙ ap₂ look first gives
          ∙ ap (λ g. look (look g (takes_at contribution main)) (gives_at contribution main)) c.loop-main.invariant.value ∙ sym
          (raised-mains c.args.direction t c.args.streams.now _ contribution c.args.mains.now c.loop-main.main-index main c.loop-main-test.true c.main-item.is);
      range = subst IsPlantHeat (sym second) c.raised-greatest-in-loop-main.ensures.range;
    }
