use Rattle.network_values.proofs.ValuationLemmas.{one_valuation}
use Rattle.network_values.proofs.valuations.valuations_agree.Goals as goal

pub returns : goal.returns
returns c = one_valuation
