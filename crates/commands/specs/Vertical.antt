-- What `vertical` shows of a completed standard case.
use Rattle.std.specs.Prelude.{◌≡◌}
use Rattle.stream_case.specs.declared.case.Case.{Case}
use Rattle.fractions.specs.Rationals.{rational_zero, whole}
use Rattle.problem_table.specs.Deficit.{hot_target}
use Rattle.networks.specs.Shape.{KeepsCounts}
use Rattle.networks.specs.declared.network.Network.{Network}
use Rattle.network_audit.specs.declared.verdict.Balance.{Balance}
use Rattle.design_lines.specs.Drawn.{HasFewLines}
use Rattle.vertical_design.specs.Courses.{IsVerticalDesign}
use Rattle.vertical_design.specs.Vertical.{IsVertical}
use Rattle.reports.specs.declared.shown.Shown.{Shown}
use Rattle.commands.specs.Design.{IsShownNetwork}

-- the network that the composite curves draw is shown, keeps the counts of a text, and has few lines. Each exchanger joins the two curves at one heat.
-- It needs no more hot utility than the hot target, which it costs
pub record IsVerticalAnswer (c : Case) (shown : Shown) : Type 0 where
  pub network : Network
  pub balance : Balance
  pub shows : IsShownNetwork c network balance shown
  pub drawn : IsVerticalDesign c network
  pub counts : KeepsCounts network
  pub few_lines : HasFewLines network
  pub vertical : IsVertical c network
  pub tight : balance.excess ≡ rational_zero
  pub costs : balance.cost ≡ whole (hot_target c.streams)
