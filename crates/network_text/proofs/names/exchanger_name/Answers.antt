use Rattle.network_text.proofs.NameTests.{name_given}
use Rattle.network_text.proofs.names.exchanger_name.Goals as goal

pub returns-clause-name : goal.returns-clause-name
returns-clause-name c = name_given c.undotted.result c.args.field.now c.undotted.ensures.some c.undotted.ensures.value
