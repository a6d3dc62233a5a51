use Rattle.price_floor.proofs.UsesLemmas.{uses_ordered}
use Rattle.price_floor.proofs.laws.uses_are_ordered.Goals as goal

pub returns : goal.returns
returns c = uses_ordered
