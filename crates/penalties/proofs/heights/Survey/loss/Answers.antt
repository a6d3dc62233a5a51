use Rattle.network_audit.proofs.ItemLemmas.{found-behind, found-front}
use Rattle.penalties.proofs.StepLemmas.{difference_formed, difference_not_formed, handed_on}
use Rattle.std.proofs.Common.{◌+◌, ◌∙◌}
use Rattle.penalties.proofs.heights.Survey.loss.Goals as goal

pub returns-in_err-high : goal.returns-in_err-high
returns-in_err-high c = handed_on _ _ _ _ c.from_residual.ensures.1 (found-front _ _ _ c.in_err-high.ensures)

pub returns-in_err-low : goal.returns-in_err-low
returns-in_err-low c =
    handed_on _ _ _ _ c.from_residual-in_err-low.ensures.1 (found-behind _ _ c.in_ok-high.ensures.0 ∙ found-front _ _ _ c.in_err-low.ensures)

pub returns-in-Some : goal.returns-in-Some
returns-in-Some c =
    difference_formed _ _ _ _ _ _ c.args.place (c.args.step + 4) _ c.in_ok-high.ensures c.in_ok-low.ensures c.minus.ensures _ c.in-Some.is

pub returns-in-None : goal.returns-in-None
returns-in-None c =
    difference_not_formed _ _ _ _ _ _ c.args.place (c.args.step + 4) _ c.in_ok-high.ensures c.in_ok-low.ensures c.minus.ensures c.in-None.is
