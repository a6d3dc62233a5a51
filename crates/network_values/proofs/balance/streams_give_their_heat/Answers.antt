use Rattle.network_values.proofs.PenaltyLemmas.{stream_given}
use Rattle.network_values.proofs.balance.streams_give_their_heat.Goals as goal

pub returns : goal.returns
returns c = stream_given
