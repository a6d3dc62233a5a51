use Rattle.network_values.proofs.CourseLemmas.{passes_take}
use Rattle.network_values.proofs.heights.passes_take_shares.Goals as goal

pub returns : goal.returns
returns c = passes_take
