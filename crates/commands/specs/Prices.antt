-- What `prices` shows of a study.
use Rattle.std.specs.Prelude.{◌≡◌, List}
use Rattle.stream_case.specs.declared.case.Case.{Case}
use Rattle.study.specs.StudyAnswers.{AreAnswers}
use Rattle.study_text.specs.declared.study.Study.{Study}
use Rattle.study.specs.declared.study_answer.StudyAnswer.{StudyAnswer}
use Rattle.reports.specs.declared.shown.Shown.{Shown}
use Rattle.reports.specs.declared.shown.Shown.TheVariants.{Prices}

-- the answers to a price study of a completed case: the least cost of each scenario, and the segments of each span. The workers are not told
pub record AnswersStudy (case : Case) (study : Study) (shown : Shown) : Type 0 where
  pub answers : List StudyAnswer
  pub are : AreAnswers case study answers
  pub is : shown ≡ Prices case study answers
