use Rattle.price_floor.proofs.NetworkWorth.{worths_ordered}
use Rattle.price_floor.proofs.laws.worths_are_ordered.Goals as goal

pub returns : goal.returns
returns c = worths_ordered
