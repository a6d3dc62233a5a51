use Rattle.network_values.proofs.SignLemmas.{targets_met}
use Rattle.network_values.proofs.balance.targets_are_met.Goals as goal

pub returns : goal.returns
returns c = targets_met
