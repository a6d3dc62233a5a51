-- Each stream brings its two ends.
use Rattle.site.proofs.ProfileLemmas.{raised-ends}
use Rattle.site.proofs.Words.{IsPlantHeat, high_end, low_end, raised, to_z-of_z}
use Rattle.std.proofs.Common.{ap, ap₂, of_z, rules, subst, sym, to_z, w32, w64, ◌∙◌}
use Rattle.site.proofs.profiles.raised_by_ends.Goals as goal

pub loop-stream-preserved : goal.loop-stream-preserved
loop-stream-preserved c =
    let t = to_z w32 (of_z w32 c.args.t) in
    let s = c.stream-item.result in
    let look = raised c.args.direction t c.args.streams.now in
    let high = to_z-of_z w32 c.high_end.result (search rules) ∙ c.high_end.ensures.value in
    let low = to_z-of_z w32 c.low_end.result (search rules) ∙ c.low_end.ensures.value in
    let first = to_z-of_z w64 c.raised-greatest.result (search rules) ∙ c.raised-greatest.ensures.value
    ∙ ap (look (to_z w64 c.loop-stream.greatest-bits)) high in
    let second = to_z-of_z w64 c.raised-greatest-in-loop-stream.result (search rules) in
    record {
      value = second ∙ c.raised-greatest-in-loop-stream.ensures.value ∙ ap₂ look first low
          ∙ ap (λ g. look (look g (high_end s)) (low_end s)) c.loop-stream.invariant.value
          ∙ sym (raised-ends c.args.direction t c.args.streams.now _ c.args.others.now c.loop-stream.stream-index s c.loop-stream-test.true c.stream-item.is);
      range = subst IsPlantHeat (sym second) c.raised-greatest-in-loop-stream.ensures.range;
    }
