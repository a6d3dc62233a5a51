-- Each plant brings the ends of its streams.
use Rattle.site.proofs.ProfileLemmas.{raised-plants}
use Rattle.site_text.proofs.SiteLemmas.{All-plants}
use Rattle.site.proofs.Words.{All, IsPlantHeat, IsValidStream, Plant, Stream, raised, stream_ends, to_z-of_z}
use Rattle.std.proofs.Common.{List, ap₂, fold, of_z, rules, subst, sym, to_z, w32, w64, ◌∙◌}
use Rattle.site.proofs.profiles.raised_by_plants.Goals as goal

pub raised_by_ends-greatest-requires-clause-others : goal.raised_by_ends-greatest-requires-clause-others
raised_by_ends-greatest-requires-clause-others c =
    let plant = c.plant-item.result in
    let each = All-plants IsValidStream c.args.plants.now c.requires.plants c.loop-plant.plant-index plant c.loop-plant-test.true in
    subst (All IsValidStream) (sym c.as_slice.ensures) (subst (λ (p : Plant). All IsValidStream p.streams) (sym c.plant-item.is) each)

pub loop-plant-preserved : goal.loop-plant-preserved
loop-plant-preserved c =
    let t = to_z w32 (of_z w32 c.args.t) in
    let look = raised c.args.direction t c.args.streams.now in
    let is = to_z-of_z w64 c.raised_by_ends-greatest.result (search rules) in
    record {
      value = is ∙ c.raised_by_ends-greatest.ensures.value
          ∙ ap₂ (λ g (ss : List Stream). fold look g (stream_ends ss)) c.loop-plant.invariant.value c.as_slice.ensures ∙ sym
          (raised-plants c.args.direction t c.args.streams.now _ c.args.plants.now c.loop-plant.plant-index c.plant-item.result c.loop-plant-test.true
          c.plant-item.is);
      range = subst IsPlantHeat (sym is) c.raised_by_ends-greatest.ensures.range;
    }
