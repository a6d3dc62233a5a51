use Rattle.std.proofs.Common.{[], ap, sym, ℕ, ◌++◌, ◌∙◌, ◌∷◌}
use Rattle.study.proofs.Words.{FORBID_CHANCE, draw, eq-eqb, ne_eqb, next_state, pair_of, ◌==◌}
use Rattle.study.proofs.SampleLemmas.{pairs-more, pairs-pass, state_after-add}
use Rattle.study.proofs.sample.draw_forbids.Goals.{else-draw-eq0, then-draw-eq0+in_ok-push}
use Rattle.study.proofs.sample.draw_forbids.Goals as goal

pub loop-index-preserved : goal.loop-index-preserved
loop-index-preserved c =
    let x = c.args.generator.now.state in
    let count = c.args.count in
    let i = c.loop-index.index in
    let so_far = c.loop-index.invariant in
    let drawn = c.draw.ensures.value ∙ ap (λ s. draw s 0 FORBID_CHANCE) so_far.state in
    let p = λ (k : ℕ). draw x k FORBID_CHANCE == 0 in
    let state = c.draw.ensures.state ∙ ap next_state so_far.state ∙ state_after-add x i 1 in
    elim c.if-draw-eq0.branch [
      | then-draw-eq0+in_ok-push w ↦
          record {
            forbids =
                ap (λ v. v.items) w.forbids-is ∙ w.in_ok-push.ensures.items
                ∙ ap (λ fs. fs ++ pair_of count i ∷ []) so_far.forbids
                ∙ sym (pairs-more p count i (eq-eqb (draw x i FORBID_CHANCE) 0 (sym drawn ∙ w.if-draw-eq0.true)));
            state = state;
          }
      | else-draw-eq0 w ↦
          record {
            forbids = ap (λ v. v.items) w.forbids-is ∙ so_far.forbids
                ∙ sym (pairs-pass p count i (ne_eqb (draw x i FORBID_CHANCE) 0 (λ e. w.if-draw-eq0.false (drawn ∙ e))));
            state = state;
          }
    ]
