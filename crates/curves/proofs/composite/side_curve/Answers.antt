-- Each temperature has one point, or two where a stream is latent.
use Rattle.curves.proofs.CurveLemmas.{points-more, pushed-two}
use Rattle.curves.proofs.composite.side_curve.Goals.{else-has_latent_at, then-has_latent_at+in_ok-push-2}
use Rattle.curves.proofs.Words.{heat_below, heat_upto, is_latent_at, list_any, one_or_two, side_points, sum_side, to_z-of_z}
use Rattle.std.proofs.Common.{FitsSigned, ap, get_or, pos, rules, sym, w32, w64, ◌∙◌}
use Rattle.curves.proofs.composite.side_curve.Goals as goal

pub loop-t-preserved : goal.loop-t-preserved
loop-t-preserved c =
    let side = c.args.side in
    let streams = c.args.streams.now in
    let ts = c.as_slice-t-items.result.now in
    let i = c.loop-t.t-index in
    let t = get_or ts i (pos 0) in
    let fits : FitsSigned w32 t = search rules in
    let back = to_z-of_z w32 t fits in
    let below_fits : FitsSigned w64 c.side_heat_under.result = search rules in
    let below = to_z-of_z w64 c.side_heat_under.result below_fits ∙ c.side_heat_under.ensures.value
    ∙ ap (λ x. sum_side side (heat_below x) streams) back in
    let latent = c.has_latent_at.ensures ∙ ap (λ x. list_any (is_latent_at side x) streams) back in
    let more = points-more (side_points side streams) ts i (pos 0) c.loop-t.points c.if-has_latent_at.points c.loop-t-test.true c.loop-t.invariant in
    elim c.if-has_latent_at.branch [
      | then-has_latent_at+in_ok-push-2 w ↦
          let up_to = w.side_heat_under-then-has_latent_at in
          let upto_fits : FitsSigned w64 up_to.result = search rules in
          let upto = to_z-of_z w64 up_to.result upto_fits ∙ up_to.ensures.value
          ∙ ap (λ x. sum_side side (heat_upto x) streams) back in
          let two = sym w.if-has_latent_at.true ∙ latent in
          let pushed = pushed-two c.loop-t.points _ _ _ _ c.in_ok-push.ensures.ok w.in_ok-push-2.ensures.ok in
          more _ (w.points-is ∙ pushed) (λ j. one_or_two (two j) (below j) (upto j) (back j))
      | else-has_latent_at w ↦
          let one = sym w.if-has_latent_at.false ∙ latent in
          let none = sum_side side (heat_upto t) streams in
          more _ (w.points-is ∙ c.in_ok-push.ensures.ok) (λ j. one_or_two (one j) (below j) none (back j))
    ]
