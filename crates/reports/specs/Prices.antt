-- The text of a price study.
use Rattle.std.specs.Prelude.{ℕ, List, [], ◌∷◌, ◌++◌, codes}
use Rattle.std.specs.List.{flat_map}
use Rattle.std.specs.Fmt.{signed_decimal}
use Rattle.stream_case.specs.declared.case.Case.{Case}
use Rattle.stream_case.specs.declared.source.Source.TheVariants.{Utility as of_utility}
use Rattle.study.specs.declared.study_answer.Segment.{Segment}
use Rattle.study_text.specs.declared.study.Study.{Study}
use Rattle.study.specs.declared.study_answer.StudyAnswer.{StudyAnswer}
use Rattle.study.specs.declared.study_answer.StudyAnswer.TheVariants.{Cost, Segments}
use Rattle.study_text.specs.declared.study.StudyItem.{StudyItem}
use Rattle.study_text.specs.declared.study.StudyItem.TheVariants.{Scenario, Span}
use Rattle.reports.specs.Lines.{cost_line, infeasible_line, line}
use Rattle.reports.specs.Names.{case_names, source_name}
use Rattle.reports.specs.declared.names.SourceNames.{SourceNames}

-- scenario NAME, or span UTILITY
abbrev pub item_words : SourceNames → StudyItem → List ℕ
item_words names (Scenario name prices) = codes "scenario " ++ name
item_words names (Span utility from to) = codes "span " ++ source_name names (of_utility utility)

-- span UTILITY FROM TO BASE SLOPE
abbrev pub segment_line : List ℕ → Segment → List ℕ
segment_line words s =
    line (words ++ 32 ∷ (signed_decimal s.from ++ 32 ∷ (signed_decimal s.to ++ 32 ∷ signed_decimal s.base))) s.slope

-- a line for each segment; there is none exactly where there is no heat flow
abbrev pub segment_lines : List ℕ → List Segment → List ℕ
segment_lines words [] = infeasible_line words
segment_lines words (s ∷ segments) = flat_map (segment_line words) (s ∷ segments)

-- what is answered to an item of these words
abbrev pub answer_lines : List ℕ → StudyAnswer → List ℕ
answer_lines words (Cost cost) = cost_line words cost
answer_lines words (Segments segments) = segment_lines words segments

-- the items in their order, each with its answer
abbrev pub item_lines : SourceNames → List StudyItem → List StudyAnswer → List ℕ
item_lines names [] answers = []
item_lines names (item ∷ items) [] = []
item_lines names (item ∷ items) (answer ∷ answers) =
    answer_lines (item_words names item) answer ++ item_lines names items answers

-- the utilities of spans have their names in the case
abbrev pub prices_text : Case → Study → List StudyAnswer → List ℕ
prices_text c study answers = item_lines (case_names c) study.items answers
