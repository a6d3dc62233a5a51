use Rattle.network_values.proofs.LoadLemmas.{loads_kept}
use Rattle.network_values.proofs.valuations.loads_are_kept.Goals as goal

pub returns : goal.returns
returns c = loads_kept
