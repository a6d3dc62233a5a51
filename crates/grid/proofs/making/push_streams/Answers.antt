use Rattle.grid.proofs.PickedParts.{picked-pass, picked-push}
use Rattle.grid.proofs.making.push_streams.Goals.{else-covers, then-covers+in_ok-push}
use Rattle.std.proofs.Common.{ap, sym, ◌∙◌}
use Rattle.grid.proofs.making.push_streams.Goals as goal

pub loop-index-preserved : goal.loop-index-preserved
loop-index-preserved c = elim c.if-covers.branch [
  | then-covers+in_ok-push w ↦
      let passes = sym c.covers.ensures ∙ w.if-covers.true in
      let items = ap (λ v. v.items) w.parts-is ∙ w.in_ok-push.ensures.items in
      picked-push _ _ _ _ c.index-streams-index.result _ c.loop-index.parts.items _ w.stream_part.result
      c.loop-index-test.true c.index-streams-index.is c.loop-index.invariant passes w.stream_part.ensures items
  | else-covers w ↦
      let fails = sym c.covers.ensures ∙ w.if-covers.false in
      picked-pass _ _ _ _ c.index-streams-index.result _ c.loop-index.parts.items _ c.loop-index-test.true
      c.index-streams-index.is c.loop-index.invariant fails
      (ap (λ v. v.items) w.parts-is)
]
