use Rattle.study.proofs.LeastCosts.{rises_fall}
use Rattle.study.proofs.studies.rises_fall.Goals as goal

pub returns : goal.returns
returns c = rises_fall
