use Rattle.network_text.proofs.Words.{grammar, no_value, one_fault, one_value}
use Rattle.network_text.proofs.laws.statements_have_one_outcome.Goals as goal

pub returns-clause-fault : goal.returns-clause-fault
returns-clause-fault c case statements = one_fault (grammar case) statements

pub returns-clause-apart : goal.returns-clause-apart
returns-clause-apart c case statements = no_value (grammar case) statements

pub returns-clause-network : goal.returns-clause-network
returns-clause-network c case statements = one_value (grammar case) statements
