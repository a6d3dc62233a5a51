use Rattle.network_values.proofs.WeightLemmas.{weights_balanced}
use Rattle.network_values.proofs.balance.weights_balance.Goals as goal

pub returns : goal.returns
returns c = weights_balanced
