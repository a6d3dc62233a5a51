use Rattle.network_text.proofs.Shaped.Law.{network-has_shape, network-keeps_counts}
use Rattle.network_text.proofs.Words.{IsNetwork, Network, statements_of}
use Rattle.std.proofs.Common.{subst, sym}
use Rattle.network_text.proofs.reader.read_network.Goals as goal

pub returns-clause-outcome : goal.returns-clause-outcome
returns-clause-outcome c =
    subst (λ (n : Network). IsNetwork c.args.case.now (statements_of c.args.bytes.now) n) (sym c.in_ok-into_network.ensures) c.in_ok-given.ensures.network

pub returns-clause-shape : goal.returns-clause-shape
returns-clause-shape c =
    network-has_shape c.args.case.now (statements_of c.args.bytes.now) c.in_ok-into_network.field-0 c.requires
    (returns-clause-outcome c)

pub returns-clause-counts : goal.returns-clause-counts
returns-clause-counts c =
    network-keeps_counts c.args.case.now (statements_of c.args.bytes.now) c.in_ok-into_network.field-0
    (returns-clause-outcome c)
