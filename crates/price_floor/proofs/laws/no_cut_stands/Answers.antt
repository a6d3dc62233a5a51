use Rattle.price_floor.proofs.CutLemmas.{no_cut-stands}
use Rattle.price_floor.proofs.UsesLemmas.{uses_ordered}
use Rattle.price_floor.proofs.laws.no_cut_stands.Goals as goal

pub returns : goal.returns
returns c = no_cut-stands uses_ordered
