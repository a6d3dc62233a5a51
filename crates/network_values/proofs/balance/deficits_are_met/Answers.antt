use Rattle.network_values.proofs.SignLemmas.{deficits_met}
use Rattle.network_values.proofs.balance.deficits_are_met.Goals as goal

pub returns : goal.returns
returns c = deficits_met
