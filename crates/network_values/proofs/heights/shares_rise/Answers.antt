use Rattle.network_values.proofs.CourseLemmas.{shares_rise}
use Rattle.network_values.proofs.heights.shares_rise.Goals as goal

pub returns : goal.returns
returns c = shares_rise
