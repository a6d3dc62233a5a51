use Rattle.study.proofs.Words.{AreRows, IfOk-weaker}
use Rattle.study.proofs.sweeps.sweep.Goals as goal

pub returns : goal.returns
returns g c = IfOk-weaker c.items_by_workers.result _ (AreRows c.args.case.now c.args.plan)
    (λ rows h. record { each = h.each; as_many = λ k. let long = h.count in rw long (c.row_count.ensures.rows k) }) c.items_by_workers.ensures
