use Rattle.network_values.proofs.PenaltyLemmas.{penalties_sum}
use Rattle.network_values.proofs.balance.penalties_add_up.Goals as goal

pub returns : goal.returns
returns c = penalties_sum
