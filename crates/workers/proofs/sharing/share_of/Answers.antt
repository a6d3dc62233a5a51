use Rattle.std.proofs.Common.{Ok, [], ap, arith, subst, sym, ℕ, ◌++◌, ◌+◌, ◌∙◌, ◌∷◌}
use Rattle.workers.proofs.Words.{AreItemsOfWorker}
use Rattle.workers.proofs.ShareLemmas.{AreMade, all_made, one_made}
use Rattle.workers.proofs.sharing.share_of.Given as given
use Rattle.workers.proofs.sharing.share_of.Goals.{else-loop-number-test, then-loop-number-test+in_ok-made+in_ok-push+else-number-step-count}
use Rattle.workers.proofs.sharing.share_of.Goals as goal

pub loop-number-preserved : goal.loop-number-preserved
loop-number-preserved g c =
    let IsItem : ℕ → _ → Type 0 = λ k x. given.F-post g c.args.item.now k (Ok x) in
    let number = c.loop-number.number in
    subst (AreMade IsItem c.args.count c.args.workers c.args.worker (number + c.args.workers)) (sym c.in_ok-push.ensures.items)
    (one_made IsItem c.args.count c.args.workers c.args.worker number c.loop-number.items.items c.in_ok-made.field-0
    c.loop-number.invariant c.loop-number-test.true c.in_ok-made.ensures)

pub returns : goal.returns
returns g c =
    let IsItem : ℕ → _ → Type 0 = λ k x. given.F-post g c.args.item.now k (Ok x) in
    let number = c.loop-number.number in
    let items = c.loop-number.items.items in
    let AreAll = AreItemsOfWorker IsItem c.args.count c.args.workers c.args.worker in
    elim c.loop-number-test.branch [
      | else-loop-number-test w ↦ subst AreAll (ap (λ v. v.items) (sym w.items-is))
          (all_made IsItem c.args.count c.args.workers c.args.worker number items c.loop-number.invariant w.loop-number-test.false)
      | then-loop-number-test+in_ok-made+in_ok-push+else-number-step-count w ↦
          let x = w.in_ok-made.field-0 in
          subst AreAll (sym (ap (λ v. v.items) w.items-is ∙ w.in_ok-push.ensures.items))
          (all_made IsItem c.args.count c.args.workers c.args.worker (number + c.args.workers) (items ++ x ∷ [])
          (one_made IsItem c.args.count c.args.workers c.args.worker number items x c.loop-number.invariant w.loop-number-test.true w.in_ok-made.ensures)
          (omega arith))
    ]
