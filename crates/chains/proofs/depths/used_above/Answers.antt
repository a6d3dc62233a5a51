-- One rank more.
use Rattle.chains.proofs.DepthLemmas.{used-more, used-within}
use Rattle.chains.proofs.depths.used_above.Goals.{else-is_used, then-is_used}
use Rattle.chains.proofs.Words.{map-range_with_len_more, range_with_len, used_among}
use Rattle.std.proofs.Common.{[], ap, ap₂, arith, cond, false, get_or, length, map, refl, subst, sym, ◌++◌, ◌+◌, ◌<◌, ◌∙◌, ◌∷◌, ◌≡◌}
use Rattle.chains.proofs.depths.used_above.Goals as goal

pub overflow_add-count : goal.overflow_add-count
overflow_add-count c =
    let most = used-within (c.args.hot.now ++ c.args.cold.now) c.loop-is_used.is_used-index in
    let all = ap length c.deref-is_used-items.ensures.value in
    omega (
      arith,
      most,
      c.loop-is_used.invariant.count,
      c.requires.few,
      c.loop-is_used-test.true,
      all,
      c.in_ok-used.ensures.count,
    )

pub loop-is_used-init : goal.loop-is_used-init
unfolding used_among
loop-is_used-init c = record { above = c.in_ok-above.ensures.items; count = refl }

pub loop-is_used-preserved : goal.loop-is_used-preserved
loop-is_used-preserved c =
    let ranks = c.args.hot.now ++ c.args.cold.now in
    let used = c.deref-is_used-items.result.now in
    let n = c.loop-is_used.is_used-index in
    let so_far = c.loop-is_used.invariant in
    let more = map-range_with_len_more (used_among ranks) 0 n n (omega arith) in
    let within = subst (λ xs. n < length xs) c.deref-is_used-items.ensures.value c.loop-is_used-test.true in
    let here = sym (c.in_ok-used.ensures.each n within)
    ∙ ap (λ xs. get_or xs n false) (sym c.deref-is_used-items.ensures.value) in
    let next = used-more ranks n ∙ ap (λ b. used_among ranks n + cond b 1 0) here in
    record {
      above = c.in_ok-push.ensures.items ∙ ap₂ (λ xs x. xs ++ x ∷ []) so_far.above so_far.count ∙ sym more;
      count = elim c.if-is_used.branch [
        | then-is_used w ↦
            let one = ap (λ b. used_among ranks n + cond b 1 0) w.if-is_used.true in
            omega (arith, w.count-is, so_far.count, next, one)
        | else-is_used w ↦
            let none = ap (λ b. used_among ranks n + cond b 1 0) w.if-is_used.false in
            omega (arith, w.count-is, so_far.count, next, none)
      ];
    }

pub returns : goal.returns
returns c =
    let ranks = c.args.hot.now ++ c.args.cold.now in
    let n = c.loop-is_used.is_used-index in
    let so_far = c.loop-is_used.invariant in
    let all = ap length c.deref-is_used-items.ensures.value in
    let whole : n ≡ c.args.ranks
    = omega (
      arith,
      c.loop-is_used-test.false,
      c.loop-is_used.auto.is_used-index-end,
      all,
      c.in_ok-used.ensures.count,
    ) in
    let more = map-range_with_len_more (used_among ranks) 0 n n (omega arith) in
    c.in_ok-push-2.ensures.items ∙ ap₂ (λ xs x. xs ++ x ∷ []) so_far.above so_far.count ∙ sym more
    ∙ ap (λ m. map (used_among ranks) (range_with_len 0 (m + 1))) whole
