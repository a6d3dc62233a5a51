use Rattle.network_values.proofs.ShareLemmas.{priced_shares}
use Rattle.network_values.proofs.heights.priced_shares_are_ordered.Goals as goal

pub returns : goal.returns
returns c = priced_shares
