use Rattle.network_audit.proofs.ItemLemmas.{found-behind, found-front}
use Rattle.penalties.proofs.StepLemmas.{difference_formed, difference_not_formed, handed_on}
use Rattle.std.proofs.Common.{◌∙◌}
use Rattle.penalties.proofs.heights.Survey.exchanger_penalty.Goals as goal

pub returns-in_err-released : goal.returns-in_err-released
returns-in_err-released c = handed_on _ _ _ _ c.from_residual.ensures.1 (found-front _ _ _ c.in_err-released.ensures)

pub returns-in_err-absorbed : goal.returns-in_err-absorbed
returns-in_err-absorbed c = handed_on _ _ _ _ c.from_residual-in_err-absorbed.ensures.1
    (found-behind _ _ c.in_ok-released.ensures.0 ∙ found-front _ _ _ c.in_err-absorbed.ensures)

pub returns-in-Some : goal.returns-in-Some
returns-in-Some c =
    difference_formed _ _ _ _ _ _ _ _ _ c.in_ok-released.ensures c.in_ok-absorbed.ensures c.minus.ensures _ c.in-Some.is

pub returns-in-None : goal.returns-in-None
returns-in-None c =
    difference_not_formed _ _ _ _ _ _ _ _ _ c.in_ok-released.ensures c.in_ok-absorbed.ensures c.minus.ensures c.in-None.is
