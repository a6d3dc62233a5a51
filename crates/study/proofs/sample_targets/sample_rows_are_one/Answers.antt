use Rattle.study.proofs.SampleLemmas.{one_sample_row}
use Rattle.study.proofs.sample_targets.sample_rows_are_one.Goals as goal

pub returns : goal.returns
returns c = one_sample_row
