use Rattle.price_floor.proofs.FloorLemmas.{no_network-costs_less}
use Rattle.price_floor.proofs.UsesLemmas.{uses_ordered}
use Rattle.price_floor.proofs.laws.no_network_costs_less.Goals as goal

pub returns : goal.returns
returns c = no_network-costs_less uses_ordered
