use Rattle.certify.proofs.Ranges.{cuts-readable, flows-readable}
use Rattle.certify.proofs.laws.certified_reports_are_within_the_ranges.Goals as goal

pub returns-clause-flows : goal.returns-clause-flows
returns-clause-flows c = flows-readable

pub returns-clause-cuts : goal.returns-clause-cuts
returns-clause-cuts c = cuts-readable
