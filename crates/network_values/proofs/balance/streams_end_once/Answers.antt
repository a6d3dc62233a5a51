use Rattle.network_values.proofs.WeightLemmas.{streams_end}
use Rattle.network_values.proofs.balance.streams_end_once.Goals as goal

pub returns : goal.returns
returns c = streams_end
