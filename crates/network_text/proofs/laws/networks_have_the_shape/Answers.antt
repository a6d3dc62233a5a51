use Rattle.network_text.proofs.Shaped.Law.{network-has_shape, network-keeps_counts}
use Rattle.network_text.proofs.laws.networks_have_the_shape.Goals as goal

pub returns-clause-shape : goal.returns-clause-shape
returns-clause-shape c = network-has_shape

pub returns-clause-counts : goal.returns-clause-counts
returns-clause-counts c = network-keeps_counts
