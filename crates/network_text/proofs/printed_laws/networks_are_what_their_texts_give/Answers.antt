use Rattle.network_text.proofs.ReadBack.Law.{shape-is_network, shape-once}
use Rattle.network_text.proofs.printed_laws.networks_are_what_their_texts_give.Goals as goal

pub returns-clause-given : goal.returns-clause-given
returns-clause-given c = shape-is_network

pub returns-clause-once : goal.returns-clause-once
returns-clause-once c = shape-once
