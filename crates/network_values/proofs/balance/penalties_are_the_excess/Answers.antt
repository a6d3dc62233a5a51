use Rattle.network_values.proofs.PenaltyLemmas.{penalties_excess}
use Rattle.network_values.proofs.balance.penalties_are_the_excess.Goals as goal

pub returns : goal.returns
returns c = penalties_excess
