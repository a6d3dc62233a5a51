-- Each place has one point, or two where a stream is latent.
use Rattle.curves.proofs.CurveLemmas.{points-more, pushed-two}
use Rattle.curves.proofs.grand.grand_curve.Goals.{else-has_level_at, then-has_level_at+in_ok-push-2}
use Rattle.curves.proofs.Words.{IsStreamsHeat, Stream, grand_points, has_level_at, ints, one_or_two, to_z-of_z}
use Rattle.problem_table.specs.Deficit.{IsDeficit, deficit_above, deficit_from, hot_target}
use Rattle.std.proofs.Common.{FitsSigned, List, ap, ap₂, arith, get_or, of_z, pos, rules, sym, to_z, w32, w64, ℤ, ◌-ℤ◌, ◌∙◌, ◌≡◌}
use Rattle.curves.proofs.grand.grand_curve.Goals as goal

-- the difference that the code forms fits its type
net_heat : (hot deficit : ℤ) → IsStreamsHeat hot → IsDeficit deficit
    → to_z w64 (of_z w64 (to_z w64 (of_z w64 hot) -ℤ to_z w64 (of_z w64 deficit))) ≡ hot -ℤ deficit
net_heat hot deficit h d = omega (arith, ints)

pub overflow_sub-hot-then-has_level_at : goal.overflow_sub-hot-then-has_level_at
overflow_sub-hot-then-has_level_at c = omega (arith, ints)

pub loop-t-preserved : goal.loop-t-preserved
loop-t-preserved c =
    let streams = c.args.case.now.streams in
    let ts = c.as_slice-t-items.result.now in
    let i = c.loop-t.t-index in
    let t = get_or ts i (pos 0) in
    let fits : FitsSigned w32 t = search rules in
    let back = to_z-of_z w32 t fits in
    let hot = c.targets-hot.ensures in
    let above = c.deficit_above.ensures in
    let net_above = net_heat _ _ hot.hot_range above.range
    ∙ ap₂ ◌-ℤ◌ hot.hot (above.value ∙ ap (deficit_above streams) back) in
    let level = c.has_level_at.ensures
    ∙ ap₂ (λ (x : ℤ) (ss : List Stream). has_level_at x ss) back c.as_slice-in-loop-t.ensures in
    let more = points-more (grand_points streams) ts i (pos 0) c.loop-t.points c.if-has_level_at.points c.loop-t-test.true c.loop-t.invariant in
    elim c.if-has_level_at.branch [
      | then-has_level_at+in_ok-push-2 w ↦
          let from = w.deficit_from.ensures in
          let net_from = net_heat _ _ hot.hot_range from.range
          ∙ ap₂ ◌-ℤ◌ hot.hot (from.value ∙ ap (deficit_from streams) back) in
          let two = sym w.if-has_level_at.true ∙ level in
          let pushed = pushed-two c.loop-t.points _ _ _ _ c.in_ok-push.ensures.ok w.in_ok-push-2.ensures.ok in
          more _ (w.points-is ∙ pushed) (λ j. one_or_two (two j) (net_above j) (net_from j) (back j))
      | else-has_level_at w ↦
          let one = sym w.if-has_level_at.false ∙ level in
          let none = hot_target streams -ℤ deficit_from streams t in
          more _ (w.points-is ∙ c.in_ok-push.ensures.ok) (λ j. one_or_two (one j) (net_above j) none (back j))
    ]
