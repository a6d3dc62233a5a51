-- The answers to the price studies of a case.
use Rattle.std.specs.Prelude.{◌≡◌, ◌⊎◌, ℕ, ◌<◌, ℤ, pos, ◌+ℤ◌, ◌-ℤ◌, ◌≤ℤ◌, List, [], length, Some, slice_get}
use Rattle.stream_case.specs.Limits.{IsBetween}
use Rattle.stream_case.specs.declared.case.Case.{Case}
use Rattle.study_text.specs.Study.{IsStudy}
use Rattle.study_text.specs.declared.study.Study.{Study}
use Rattle.study_text.specs.declared.study.StudyItem.{StudyItem}
use Rattle.study_text.specs.declared.study.StudyItem.TheVariants.{Scenario, Span}
use Rattle.study.specs.Priced.{HasNoFlowAt, IsCostAt, prices_with}
use Rattle.study.specs.Segments.{AreSegments, CostsWith}
use Rattle.study.specs.declared.study_answer.Segment.{Segment}
use Rattle.study.specs.declared.study_answer.StudyAnswer.{StudyAnswer}
use Rattle.study.specs.declared.study_answer.StudyAnswer.TheVariants.{Cost, Segments}

-- the segments of the least cost over the span, or none where the case has no heat flow at any of its prices
abbrev pub AreSpanSegments : Case → ℕ → ℤ → ℤ → List Segment → Type 0
AreSpanSegments c i from to segments =
    AreSegments c i to from (to +ℤ pos 1) segments
    ⊎ ((segments ≡ []) × ((p : ℤ) → IsBetween from to p → HasNoFlowAt c (prices_with c i p)))

-- the least cost of a scenario, and the segments of a span
abbrev pub IsItemAnswer : Case → StudyItem → StudyAnswer → Type 0
IsItemAnswer c (Scenario name prices) (Cost cost) = IsCostAt c prices cost
IsItemAnswer c (Scenario name prices) (Segments segments) = ⊥
IsItemAnswer c (Span i from to) (Cost cost) = ⊥
IsItemAnswer c (Span i from to) (Segments segments) = AreSpanSegments c i from to segments

-- the answer to item number k
abbrev pub IsAnswerAt : Case → Study → ℕ → StudyAnswer → Type 0
IsAnswerAt c study k answer = (item : StudyItem) → slice_get study.items k ≡ Some item → IsItemAnswer c item answer

-- an answer to each item, in their order
pub record AreAnswers (c : Case) (study : Study) (answers : List StudyAnswer) : Type 0 where
  pub as_many : length answers ≡ length study.items
  pub each : (k : ℕ) (answer : StudyAnswer) → slice_get answers k ≡ Some answer → IsAnswerAt c study k answer

-- there is at most one list of them
abbrev pub OneAnswer : Case → Type 0
OneAnswer c =
    (study : Study) (answers others : List StudyAnswer) → IsStudy c study → AreAnswers c study answers
    → AreAnswers c study others → answers ≡ others

-- the least cost never rises more behind a price of a utility than before it
abbrev pub RisesFall : Case → Type 0
RisesFall c =
    (i : ℕ) (p first middle last : ℤ) → i < length c.utilities
    → CostsWith c i p first → CostsWith c i (p +ℤ pos 1) middle → CostsWith c i (p +ℤ pos 2) last
    → (last -ℤ middle) ≤ℤ (middle -ℤ first)
