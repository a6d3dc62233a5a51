use Rattle.commands.proofs.Early.{by_completed, by_last, form_ends, with_form, without_form, without_second, without_text}
use Rattle.commands.proofs.Words.{case_file, file, ready, report_file, two_files}
use Rattle.commands.specs.Reading.{certify_form}
use Rattle.commands.specs.declared.request.Request.TheVariants.{Certify}
use Rattle.commands.proofs.request.request_certify.Goals as goal

pub returns-in_err-case-clause-reads : goal.returns-in_err-case-clause-reads
unfolding certify_form
returns-in_err-case-clause-reads g c =
    without_form (two_files c.args.words.now) _ _ _ c.in_err-case.ensures c.from_residual.ensures.1

pub returns-in_err-case-2-clause-reads : goal.returns-in_err-case-2-clause-reads
unfolding certify_form
returns-in_err-case-2-clause-reads g c =
    with_form (two_files c.args.words.now) _ _ _ _ _ c.in_ok-case.ensures
    (without_text case_file _ _ _ _ _ _ c.from_residual-in_err-case-2.ensures.1 c.in_err-case-2.ensures.stop)

pub returns-in_err-report-clause-reads : goal.returns-in_err-report-clause-reads
unfolding certify_form
returns-in_err-report-clause-reads g c =
    with_form (two_files c.args.words.now) _ _ _ _ _ c.in_ok-case.ensures
    (without_second (λ k. report_file) (λ k r. ready (Certify k r)) _ _ _ _ _ _ _ _
    c.from_residual-in_err-report.ensures.1 c.in_ok-case-2.ensures.case c.in_err-report.ensures.stop)

pub returns-clause-reads : goal.returns-clause-reads
unfolding certify_form
returns-clause-reads g c =
    form_ends (two_files c.args.words.now) _ _ _ _ _ c.in_ok-case.ensures
    (by_completed _ (λ k. file report_file c.in_ok-case.report.now (λ r. ready (Certify k r))) _ _ _ _ _
    c.in_ok-case-2.ensures.case (by_last _ _ (λ r. Certify c.in_ok-case-2.case r) _ _ _ c.in_ok-report.ensures.report))
