use Rattle.network_audit.proofs.FindingLemmas.{one_verdict}
use Rattle.network_audit.proofs.VerdictLemmas.{excess_of_verdict, one_valuation_left, says_exactly, says_valid}
use Rattle.network_audit.proofs.auditor.Auditor.audit.Goals as goal

pub returns-clause-only : goal.returns-clause-only
returns-clause-only c =
    one_valuation_left c.args.self.now c.audited.new.self c.audited.result c.audited.ensures.shape c.audited.ensures.after

pub returns-clause-valid : goal.returns-clause-valid
returns-clause-valid c =
    says_exactly _ c.audited.result
    (says_valid c.args.self.now.case c.args.self.now.network c.audited.result c.audited.ensures.shape c.audited.ensures.verdict)

pub returns-clause-excess : goal.returns-clause-excess
returns-clause-excess c =
    excess_of_verdict c.args.self.now.case c.args.self.now.network c.audited.result c.audited.ensures.complete c.audited.ensures.shape c.audited.ensures.verdict

pub returns-clause-again : goal.returns-clause-again
returns-clause-again c =
    λ other is. one_verdict c.args.self.now.case c.args.self.now.network other c.audited.result c.audited.ensures.shape is
    c.audited.ensures.verdict
