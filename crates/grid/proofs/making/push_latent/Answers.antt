use Rattle.grid.proofs.PickedParts.{picked-pass, picked-push}
use Rattle.grid.proofs.making.push_latent.Goals.{else-stands_at, then-stands_at+in_ok-push}
use Rattle.std.proofs.Common.{ap, sym, ◌∙◌}
use Rattle.grid.proofs.making.push_latent.Goals as goal

pub loop-index-preserved : goal.loop-index-preserved
loop-index-preserved c = elim c.if-stands_at.branch [
  | then-stands_at+in_ok-push w ↦
      let passes = sym c.stands_at.ensures ∙ w.if-stands_at.true in
      let items = ap (λ v. v.items) w.parts-is ∙ w.in_ok-push.ensures.items in
      picked-push _ _ _ _ c.index-streams-index.result _ c.loop-index.parts.items _ w.stream_part.result
      c.loop-index-test.true c.index-streams-index.is c.loop-index.invariant passes w.stream_part.ensures items
  | else-stands_at w ↦
      let fails = sym c.stands_at.ensures ∙ w.if-stands_at.false in
      picked-pass _ _ _ _ c.index-streams-index.result _ c.loop-index.parts.items _ c.loop-index-test.true
      c.index-streams-index.is c.loop-index.invariant fails
      (ap (λ v. v.items) w.parts-is)
]
