use Rattle.std.proofs.Common.{subst, sym}
use Rattle.study.proofs.Words.{IsCostOf}
use Rattle.study.proofs.SweepLemmas.{IsCostOf-found}
use Rattle.study.proofs.row.cost_of.Goals as goal

pub returns : goal.returns
returns c =
    subst (IsCostOf c.args.case.now) (sym c.ok.ensures.value)
    (IsCostOf-found c.args.case.now c.in_ok-found.found c.in_ok-found.ensures)
