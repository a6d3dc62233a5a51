use Rattle.grid.proofs.PickedParts.{picked-pass, picked-push}
use Rattle.grid.proofs.making.push_utilities.Goals.{else-is_here, then-is_here+in_ok-push}
use Rattle.std.proofs.Common.{ap, sym, ◌∙◌}
use Rattle.grid.proofs.making.push_utilities.Goals as goal

pub loop-index-preserved : goal.loop-index-preserved
loop-index-preserved c = elim c.if-is_here.branch [
  | then-is_here+in_ok-push w ↦
      let passes = sym c.is_here.ensures ∙ w.if-is_here.true in
      let items = ap (λ v. v.items) w.parts-is ∙ w.in_ok-push.ensures.items in
      picked-push _ _ _ _ c.index-utilities-index.result _ c.loop-index.parts.items _ w.utility_part.result
      c.loop-index-test.true c.index-utilities-index.is c.loop-index.invariant passes w.utility_part.ensures items
  | else-is_here w ↦
      let fails = sym c.is_here.ensures ∙ w.if-is_here.false in
      picked-pass _ _ _ _ c.index-utilities-index.result _ c.loop-index.parts.items _ c.loop-index-test.true
      c.index-utilities-index.is c.loop-index.invariant fails
      (ap (λ v. v.items) w.parts-is)
]
