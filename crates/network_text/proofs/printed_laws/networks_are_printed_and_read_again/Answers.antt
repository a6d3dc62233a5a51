use Rattle.network_text.proofs.ReadBack.Law.{printed-again, printed-once}
use Rattle.network_text.proofs.printed_laws.networks_are_printed_and_read_again.Goals as goal

pub returns-clause-again : goal.returns-clause-again
returns-clause-again c = printed-again

pub returns-clause-once : goal.returns-clause-once
returns-clause-once c = printed-once
