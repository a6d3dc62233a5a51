use Rattle.statements.proofs.PlainStatements.{statements-back}
use Rattle.statements.proofs.laws.plain_statements_are_read_again.Goals as goal

pub returns : goal.returns
returns c = statements-back
