-- What `flow` shows of a completed case.
use Rattle.std.specs.Prelude.{◌≡◌}
use Rattle.stream_case.specs.declared.case.Case.{Case}
use Rattle.stream_case.specs.Case.{IsStandard}
use Rattle.grid.specs.declared.parts.Parts.{Parts}
use Rattle.grid.specs.Part.{AreCaseParts}
use Rattle.heat_flow.specs.Reach.{reach_between}
use Rattle.reports.specs.Proofs.{IsProofOf}
use Rattle.transport.specs.Answer.{IsAnswer}
use Rattle.transport.specs.declared.answer.Answer.{Answer}
use Rattle.transport.specs.declared.answer.Answer.TheVariants as answer
use Rattle.transport.specs.CornerAnswer.{IsCornerAnswer}
use Rattle.reports.specs.declared.shown.Shown.{Shown}
use Rattle.reports.specs.declared.shown.Shown.TheVariants as show

-- what answers a case, with its parts: a heat flow between them and prices that prove that none costs less, or a cut that proves that there is none;
-- for a standard case the corner flow with its prices
pub record IsCaseAnswer (c : Case) (parts : Parts) (answer : Answer) : Type 0 where
  pub parts_are : AreCaseParts c parts.hot parts.cold
  pub answers : IsAnswer (reach_between c parts.hot parts.cold) parts.hot parts.cold answer
  pub standard : IsStandard c → IsCornerAnswer c parts.hot parts.cold answer

-- how the answer is shown
abbrev pub shown_answer : Case → Parts → Answer → Shown
shown_answer c parts (answer.Least flow prices cost) = show.Flow c parts flow prices cost
shown_answer c parts (answer.Stuck cut) = show.Stuck c parts cut

-- what answers the case is shown, and it proves what it says
pub record AnswersFlow (c : Case) (shown : Shown) : Type 0 where
  pub parts : Parts
  pub answer : Answer
  pub is_answer : IsCaseAnswer c parts answer
  pub is : shown ≡ shown_answer c parts answer
  pub proof : IsProofOf c shown
