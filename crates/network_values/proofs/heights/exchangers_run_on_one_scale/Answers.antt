use Rattle.network_values.proofs.ScaleLemmas.{exchangers_run}
use Rattle.network_values.proofs.heights.exchangers_run_on_one_scale.Goals as goal

pub returns : goal.returns
returns c = exchangers_run
