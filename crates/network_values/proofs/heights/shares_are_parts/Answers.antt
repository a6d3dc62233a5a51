use Rattle.network_values.proofs.ShareLemmas.{shares_parts}
use Rattle.network_values.proofs.heights.shares_are_parts.Goals as goal

pub returns : goal.returns
returns c = shares_parts
