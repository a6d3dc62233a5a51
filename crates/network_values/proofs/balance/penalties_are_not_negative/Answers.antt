use Rattle.network_values.proofs.SignLemmas.{penalties_sign}
use Rattle.network_values.proofs.balance.penalties_are_not_negative.Goals as goal

pub returns : goal.returns
returns c = penalties_sign
