-- What `design` shows of a completed case.
use Rattle.std.specs.Prelude.{◌≡◌, ◌≤◌, length, map}
use Rattle.std.specs.List.{enumerate_from}
use Rattle.pinch_outside.specs.declared.limits.TheConstants.{MAX_FILE}
use Rattle.stream_case.specs.declared.case.Case.{Case}
use Rattle.stream_case.specs.Case.{IsComplete, IsStandard}
use Rattle.fractions.specs.Rationals.{rational_zero, whole}
use Rattle.grid.specs.declared.parts.Parts.{Parts}
use Rattle.heat_flow.specs.Flow.{cost_of}
use Rattle.heat_flow.specs.declared.flow.Flow.{Flow}
use Rattle.transport.specs.declared.answer.Answer.{Answer}
use Rattle.transport.specs.declared.answer.Answer.TheVariants as answer
use Rattle.networks.specs.Lines.{exchangers_of}
use Rattle.network_text.specs.Outcome.{IsNetwork}
use Rattle.networks.specs.Shape.{HasShape, KeepsCounts}
use Rattle.statements.specs.Statements.{statements_of}
use Rattle.networks.specs.declared.network.Network.{Network}
use Rattle.network_audit.specs.Balance.{balance_of}
use Rattle.network_audit.specs.Findings.{HasNoFinding}
use Rattle.network_audit.specs.Valid.{IsValidNetwork}
use Rattle.network_audit.specs.declared.verdict.Balance.{Balance}
use Rattle.design_lines.specs.Drawn.{HasFewLines}
use Rattle.interval_design.specs.Courses.{exchanger_of}
use Rattle.reports.specs.Design.{design_text}
use Rattle.reports.specs.declared.shown.Shown.{Shown}
use Rattle.reports.specs.declared.shown.Shown.TheVariants as show
use Rattle.commands.specs.Flow.{IsCaseAnswer}

-- a network of a completed case is shown with its balance: it is valid, and an audit finds nothing in it. Where it keeps the counts of a text, what is
-- printed is read as this network; where it has few lines, what is printed fits in a file
pub record IsShownNetwork (c : Case) (network : Network) (balance : Balance) (shown : Shown) : Type 0 where
  pub complete : IsComplete c
  pub shape : HasShape c network
  pub valid : IsValidNetwork c network
  pub accepted : HasNoFinding c network
  pub sums : balance ≡ balance_of c network
  pub read_back : KeepsCounts network → IsNetwork c (statements_of (design_text c network balance)) network
  pub fits : HasFewLines network → length (design_text c network balance) ≤ MAX_FILE
  pub is : shown ≡ show.Design c network balance

-- the network realises a heat flow: its exchangers are the transfers, between the sources of their parts and with their heat, and it costs what the
-- heat flow costs
pub record IsDesignOf (c : Case) (parts : Parts) (flow : Flow) (shown : Shown) : Type 0 where
  pub network : Network
  pub balance : Balance
  pub shows : IsShownNetwork c network balance shown
  pub exchangers : exchangers_of network.lines
      ≡ map (exchanger_of parts.hot parts.cold) (enumerate_from 0 flow.transfers)
  pub costs : balance.cost ≡ whole (cost_of parts.hot parts.cold flow.transfers)

-- a design that needs no more hot utility than the hot target, keeps the counts of a text, and has few lines
abbrev pub IsTightDesign : Shown → Type 0
IsTightDesign (show.Design c network balance) =
    (balance.excess ≡ rational_zero) × KeepsCounts network × HasFewLines network
IsTightDesign other = ⊥

-- what is shown of what answers a case: a network of the heat flow, which for a standard case needs no more hot utility than the hot target; or the cut
abbrev pub ShowsDesignOf : Case → Parts → Answer → Shown → Type 0
ShowsDesignOf c parts (answer.Least flow prices cost) shown =
    IsDesignOf c parts flow shown × (IsStandard c → IsTightDesign shown)
ShowsDesignOf c parts (answer.Stuck cut) shown = shown ≡ show.Stuck c parts cut

-- a network of a heat flow of least cost, for a standard case of the corner flow; or a cut where there is no heat flow
pub record AnswersDesign (c : Case) (shown : Shown) : Type 0 where
  pub parts : Parts
  pub answer : Answer
  pub is_answer : IsCaseAnswer c parts answer
  pub shows : ShowsDesignOf c parts answer shown
