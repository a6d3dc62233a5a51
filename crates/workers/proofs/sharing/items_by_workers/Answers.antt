use Rattle.std.proofs.Common.{Ok, Some, [], ap, arith, get_or, length, length-append, slice_get, subst, suc, sym, ⊎_elim, ◌%◌, ◌++◌, ◌+◌, ◌-◌, ◌<◌, ◌∙◌, ◌∷◌}
use Rattle.std.proofs.Common.{◌≡◌}
use Rattle.workers.proofs.Words.{AreItems, AreItemsOfWorkers, length-reverse, length-set, mod_below, set, slice_get-get_or, slice_get_push}
use Rattle.workers.proofs.ShareLemmas.{has_last, last_is, next_shares, turned}
use Rattle.workers.proofs.sharing.items_by_workers.Given as given
use Rattle.workers.proofs.sharing.items_by_workers.Goals as goal

pub take_last-requires : goal.take_last-requires
take_last-requires g c =
    let lists = c.loop-left.shares.items in
    let workers = c.loop-left.invariant.workers in
    let some : 0 < length lists = omega (arith, workers, c.requires.some_workers) in
    has_last (λ k x. given.F-post g c.args.item.now k (Ok x)) (c.loop-left.left - 1) lists c.index_mut.result.now some
    (subst (λ n. AreItemsOfWorkers (λ k x. given.F-post g c.args.item.now k (Ok x)) n lists) {x = c.loop-left.left} {y = c.loop-left.left - 1 + 1}
    (omega (arith, c.loop-left-test.true)) c.loop-left.invariant.shares)
    (subst (λ n. c.index_mut.result.now ≡ get_or lists ((c.loop-left.left - 1) % n) c.index_mut.result.now) (sym workers) c.index_mut.ensures.value)

pub loop-left-preserved : goal.loop-left-preserved
loop-left-preserved g c =
    let lists = c.loop-left.shares.items in
    let workers = c.loop-left.invariant.workers in
    let some : 0 < length lists = omega (arith, workers, c.requires.some_workers) in
    let left = c.loop-left.left - 1 in
    let more = c.loop-left-test.true in
    let items = c.loop-left.items.items in
    let x = c.in_ok-take_last.field-0 in
    let many = c.loop-left.invariant.many in
    let last = c.in_ok-take_last.ensures.last in
    let pushed = c.in_ok-push.ensures.items in
    let long = length-append items (x ∷ []) in
    let each = subst (λ n. AreItemsOfWorkers (λ k z. given.F-post g c.args.item.now k (Ok z)) n lists) {x = c.loop-left.left} {y = left + 1}
    (omega (arith, more)) c.loop-left.invariant.shares in
    let value = subst (λ n. c.index_mut.result.now ≡ get_or lists (left % n) c.index_mut.result.now) (sym workers) c.index_mut.ensures.value in
    let here : slice_get lists (left % length lists) ≡ Some (Ok (last.items ++ x ∷ [])) =
    slice_get-get_or lists (left % length lists) c.index_mut.result.now (mod_below left (length lists) some)
    ∙ ap Some (sym value ∙ last.with_it) in
    let is = last_is (λ k z. given.F-post g c.args.item.now k (Ok z)) left (length lists) some last.items x
    (each (left % length lists) (Ok (last.items ++ x ∷ [])) here) in
    let next = next_shares (λ k z. given.F-post g c.args.item.now k (Ok z)) left lists last.items x some each here in
    record {
      many = ap (λ xs. left + length xs) pushed ∙ omega (arith, long, many, more);
      workers = length-set lists (left % c.args.workers) c.take_last.new.share ∙ workers;
      shares =
          subst (λ a. AreItemsOfWorkers (λ k z. given.F-post g c.args.item.now k (Ok z)) left (set lists (left % c.args.workers) a)) (sym last.without_it)
          (subst (λ n. AreItemsOfWorkers (λ k z. given.F-post g c.args.item.now k (Ok z)) left (set lists (left % n) (Ok last.items))) workers next);
      each = λ j y there.
          ⊎_elim (λ before. c.loop-left.invariant.each j y before)
          (λ (at, same). subst (λ z. given.F-post g c.args.item.now (c.args.count - suc j) (Ok z)) (sym same)
          (subst (λ n. given.F-post g c.args.item.now n (Ok x)) {x = left} {y = c.args.count - suc j} (omega (arith, at, many, more)) is))
          (slice_get_push items x j y (subst (λ xs. slice_get xs j ≡ Some y) pushed there));
    }

pub returns : goal.returns
returns g c =
    let items = c.loop-left.items.items in
    let many : length items ≡ c.args.count = omega (arith, c.loop-left.invariant.many, c.loop-left-test.false) in
    subst (AreItems (λ k x. given.F-post g c.args.item.now k (Ok x)) c.args.count) (sym (c.from_vec.ensures ∙ c.reverse.ensures.items))
    (record {
      each = turned (λ k x. given.F-post g c.args.item.now k (Ok x)) c.args.count items many c.loop-left.invariant.each;
      count = length-reverse items ∙ many;
    })
