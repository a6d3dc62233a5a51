use Rattle.commands.proofs.Early.{by_completed, by_nothing, form_ends, with_form, without_form, without_text}
use Rattle.commands.proofs.Words.{case_file, one_file, ready}
use Rattle.commands.specs.Reading.{task_form}
use Rattle.commands.specs.declared.request.Request.TheVariants.{OfCase}
use Rattle.commands.proofs.request.request_task.Goals as goal

pub returns-in_err-case-clause-reads : goal.returns-in_err-case-clause-reads
unfolding task_form
returns-in_err-case-clause-reads g c =
    without_form (one_file c.args.words.now) _ _ _ c.in_err-case.ensures c.from_residual.ensures.1

pub returns-in_err-case-2-clause-reads : goal.returns-in_err-case-2-clause-reads
unfolding task_form
returns-in_err-case-2-clause-reads g c =
    with_form (one_file c.args.words.now) _ _ _ _ _ c.in_ok-case.ensures
    (without_text case_file _ _ _ _ _ _ c.from_residual-in_err-case-2.ensures.1 c.in_err-case-2.ensures.stop)

pub returns-clause-reads : goal.returns-clause-reads
unfolding task_form
returns-clause-reads g c =
    form_ends (one_file c.args.words.now) _ _ _ _ _ c.in_ok-case.ensures
    (by_completed _ (λ k. ready (OfCase k c.args.task)) _ _ _ _ _ c.in_ok-case-2.ensures.case (by_nothing _ _))
