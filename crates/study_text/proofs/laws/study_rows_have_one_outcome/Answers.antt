use Rattle.first_fault.proofs.OneOutcome.{one_outcome, some_outcome}
use Rattle.study_text.specs.Outcome.{grammar}
use Rattle.study_text.proofs.laws.study_rows_have_one_outcome.Goals as goal

pub returns-clause-some : goal.returns-clause-some
returns-clause-some c = λ case. some_outcome (grammar case)

pub returns-clause-one : goal.returns-clause-one
returns-clause-one c = λ case. one_outcome (grammar case)
