use Rattle.study.proofs.SweepLemmas.{one_row, one_sweep}
use Rattle.study.proofs.sweeps.rows_are_one.Goals as goal

pub returns-clause-row : goal.returns-clause-row
returns-clause-row c = one_row

pub returns-clause-rows : goal.returns-clause-rows
returns-clause-rows c = one_sweep
