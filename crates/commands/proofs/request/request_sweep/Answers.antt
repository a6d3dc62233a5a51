use Rattle.commands.proofs.Early.{by_last, form_ends, with_form, without_form, without_text}
use Rattle.commands.proofs.Words.{case_file, sweep_words}
use Rattle.commands.specs.Reading.{sweep_form}
use Rattle.commands.specs.declared.request.Request.TheVariants.{Sweep}
use Rattle.commands.proofs.request.request_sweep.Goals as goal

pub returns-in_err-case-clause-reads : goal.returns-in_err-case-clause-reads
unfolding sweep_form
returns-in_err-case-clause-reads g c =
    without_form (sweep_words c.args.words.now) _ _ _ c.in_err-case.ensures.words c.from_residual.ensures.1

pub returns-in_err-case-2-clause-reads : goal.returns-in_err-case-2-clause-reads
unfolding sweep_form
returns-in_err-case-2-clause-reads g c =
    with_form (sweep_words c.args.words.now) _ _ _ _ _ c.in_ok-case.ensures.words
    (without_text case_file _ _ _ _ _ _ c.from_residual-in_err-case-2.ensures.1 c.in_err-case-2.ensures.stop)

pub returns-clause-reads : goal.returns-clause-reads
unfolding sweep_form
returns-clause-reads g c =
    form_ends (sweep_words c.args.words.now) _ _ _ _ _ c.in_ok-case.ensures.words
    (by_last _ _ (λ k. Sweep k c.in_ok-case.plan c.in_ok-case.workers) _ _ _ c.in_ok-case-2.ensures.case)
