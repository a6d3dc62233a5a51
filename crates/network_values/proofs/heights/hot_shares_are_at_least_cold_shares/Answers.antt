use Rattle.network_values.proofs.ShareLemmas.{hot_shares_lead}
use Rattle.network_values.proofs.heights.hot_shares_are_at_least_cold_shares.Goals as goal

pub returns : goal.returns
returns c = hot_shares_lead
