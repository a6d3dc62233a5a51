-- Each main brings its two places.
use Rattle.site.proofs.PlaceLemmas.{main_places-more, push_two}
use Rattle.site.proofs.Words.{Main, main_places, take_all, to_z-of_z}
use Rattle.std.proofs.Common.{List, [], ap, ap₂, of_z, rules, sym, take, to_z, w32, ◌++◌, ◌∙◌, ◌∷◌}
use Rattle.site.proofs.places.push_mains.Goals as goal

pub loop-main-preserved : goal.loop-main-preserved
loop-main-preserved c =
    let contribution = to_z w32 (of_z w32 c.args.contribution) in
    let i = c.loop-main.main-index in
    let takes = to_z-of_z w32 c.takes_at.result (search rules) ∙ c.takes_at.ensures in
    let gives = to_z-of_z w32 c.gives_at.result (search rules) ∙ c.gives_at.ensures in
    c.in_ok-push-2.ensures.items
    ∙ ap₂ (λ places place. places ++ place ∷ []) (c.in_ok-push.ensures.items ∙ ap₂ (λ places place. places ++ place ∷ []) c.loop-main.invariant takes) gives
    ∙ push_two c.args.places.now.items (main_places contribution (take i c.args.mains.now)) _ _
    ∙ sym (ap (λ places. c.args.places.now.items ++ places)
    (main_places-more contribution c.args.mains.now i c.main-item.result c.loop-main-test.true c.main-item.is))

pub returns : goal.returns
returns c =
    c.loop-main.invariant ∙ ap₂ (λ contribution (mains : List Main). c.args.places.now.items ++ main_places contribution mains)
    (to_z-of_z w32 c.args.contribution c.ranges.contribution) (take_all c.loop-main.main-index c.args.mains.now c.loop-main-test.false)
