use Rattle.commands.proofs.Early.{by_completed, by_last, form_ends, with_form, without_form, without_second, without_text}
use Rattle.commands.proofs.Words.{case_file, file, network_file, ready, two_files}
use Rattle.commands.specs.Reading.{audit_form}
use Rattle.commands.specs.declared.request.Request.TheVariants.{Audit}
use Rattle.commands.proofs.request.request_audit.Goals as goal

pub returns-in_err-case-clause-reads : goal.returns-in_err-case-clause-reads
unfolding audit_form
returns-in_err-case-clause-reads g c =
    without_form (two_files c.args.words.now) _ _ _ c.in_err-case.ensures c.from_residual.ensures.1

pub returns-in_err-case-2-clause-reads : goal.returns-in_err-case-2-clause-reads
unfolding audit_form
returns-in_err-case-2-clause-reads g c =
    with_form (two_files c.args.words.now) _ _ _ _ _ c.in_ok-case.ensures
    (without_text case_file _ _ _ _ _ _ c.from_residual-in_err-case-2.ensures.1 c.in_err-case-2.ensures.stop)

pub returns-in_err-network-clause-reads : goal.returns-in_err-network-clause-reads
unfolding audit_form
returns-in_err-network-clause-reads g c =
    with_form (two_files c.args.words.now) _ _ _ _ _ c.in_ok-case.ensures
    (without_second network_file (λ k n. ready (Audit k n)) _ _ _ _ _ _ _ _
    c.from_residual-in_err-network.ensures.1 c.in_ok-case-2.ensures.case c.in_err-network.ensures.stop)

pub returns-clause-reads : goal.returns-clause-reads
unfolding audit_form
returns-clause-reads g c =
    form_ends (two_files c.args.words.now) _ _ _ _ _ c.in_ok-case.ensures
    (by_completed _ (λ k. file (network_file k) c.in_ok-case.network.now (λ n. ready (Audit k n))) _ _ _ _ _
    c.in_ok-case-2.ensures.case (by_last _ _ (λ n. Audit c.in_ok-case-2.case n) _ _ _ c.in_ok-network.ensures.network))
