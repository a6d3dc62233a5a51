use Rattle.certify.proofs.Said.{certified-pass, cuts-pass}
use Rattle.certify.proofs.laws.certified_reports_are_answered_with_yes.Goals as goal

pub returns-clause-flows : goal.returns-clause-flows
returns-clause-flows c = certified-pass

pub returns-clause-cuts : goal.returns-clause-cuts
returns-clause-cuts c = cuts-pass
