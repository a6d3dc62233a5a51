use Rattle.network_audit.proofs.FindingLemmas.{finding_or_none, one_finding, one_verdict}
use Rattle.network_audit.proofs.laws.networks_have_one_verdict.Goals as goal

pub returns-clause-one : goal.returns-clause-one
returns-clause-one c = one_finding

pub returns-clause-apart : goal.returns-clause-apart
returns-clause-apart c = finding_or_none

pub returns-clause-verdict : goal.returns-clause-verdict
returns-clause-verdict c = one_verdict
