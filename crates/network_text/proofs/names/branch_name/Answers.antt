use Rattle.network_text.proofs.NameTests.{name_made}
use Rattle.network_text.proofs.names.branch_name.Goals as goal

pub returns-clause-some : goal.returns-clause-some
returns-clause-some c = name_made c.new.result c.args.field.now c.new.ensures
