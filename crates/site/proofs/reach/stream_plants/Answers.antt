-- A plant brings its index once for each of its streams.
use Rattle.site.proofs.ReachLemmas.{plants_from-more}
use Rattle.std.proofs.Common.{List, ap₂, map, sym, ◌++◌, ◌∙◌}
use Rattle.site.proofs.Words.{Stream}
use Rattle.site.proofs.reach.stream_plants.Goals as goal

pub loop-index-preserved : goal.loop-index-preserved
loop-index-preserved c =
    let i = c.loop-index.index in
    c.in_ok-push_plant.ensures
    ∙ ap₂ (λ indexes (ss : List Stream). indexes ++ map (λ s. i) ss) c.loop-index.invariant c.as_slice.ensures
    ∙ sym (plants_from-more c.args.plants.now i c.index-plants-index.result c.loop-index-test.true c.index-plants-index.is)
