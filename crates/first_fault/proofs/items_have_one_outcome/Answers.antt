use Rattle.first_fault.proofs.OneOutcome.{one_outcome, some_outcome}
use Rattle.first_fault.proofs.items_have_one_outcome.Goals as goal

pub returns-clause-some : goal.returns-clause-some
returns-clause-some g c = some_outcome

pub returns-clause-one : goal.returns-clause-one
returns-clause-one g c = one_outcome
