-- A network drawn from exchangers and from the stages that each stream is led through.
use Rattle.std.specs.Prelude.{ℕ, ◌+◌, ◌-◌, ◌*◌, ◌≤◌, List, [], ◌∷◌, ◌++◌, length, map}
use Rattle.std.specs.List.{range_with_len}
use Rattle.stream_case.specs.declared.case.Case.{Case}
use Rattle.networks.specs.Lines.{Exchanger, own_branches}
use Rattle.networks.specs.declared.network.Branch.{Branch}
use Rattle.networks.specs.declared.network.Line.{Line}
use Rattle.networks.specs.declared.network.Line.TheVariants as line
use Rattle.networks.specs.declared.network.Network.{Network}
use Rattle.design_lines.specs.Names.{branch_name}
use Rattle.design_lines.specs.Stages.{stage_end, stage_lines}
use Rattle.design_lines.specs.declared.limits.TheConstants.{MOST_DRAWN_LINES}
use Rattle.design_lines.specs.declared.stage.Share.{Share}

-- the stages that a stream is led through, from its supply to its target
abbrev pub Course : Type 0
Course = List (List Share)

-- a stream whose branch is `from` is led through stages, and ended
abbrev pub course_lines : ℕ → ℕ → Course → List Line
course_lines next from [] = line.End from ∷ []
course_lines next from (shares ∷ stages) =
    stage_lines next from shares ++ course_lines (stage_end next shares + 1) (stage_end next shares) stages

-- how many branches a stage makes, and how many a course
abbrev pub stage_branches : List Share → ℕ
stage_branches shares = 4 * (length shares - 1) + 1

abbrev pub course_branches : Course → ℕ
course_branches [] = 0
course_branches (shares ∷ stages) = stage_branches shares + course_branches stages

-- and how many all courses
abbrev pub all_branches : List Course → ℕ
all_branches [] = 0
all_branches (course ∷ courses) = course_branches course + all_branches courses

-- the courses of the streams from number `stream` on, in their order
abbrev pub courses_lines : ℕ → ℕ → List Course → List Line
courses_lines next stream [] = []
courses_lines next stream (course ∷ courses) =
    course_lines next stream course ++ courses_lines (next + course_branches course) (stream + 1) courses

-- the branches with these numbers, which a design makes in a stream
abbrev pub numbered : ℕ → ℕ → ℕ → List Branch
numbered first stream count = map (λ k. record { name = branch_name k; stream = stream }) (range_with_len first count)

-- the branches that the courses make, those of the streams from number `stream` on
abbrev pub made_branches : ℕ → ℕ → List Course → List Branch
made_branches first stream [] = []
made_branches first stream (course ∷ courses) =
    numbered first stream (course_branches course)
    ++ made_branches (first + course_branches course) (stream + 1) courses

-- the line that declares an exchanger
abbrev pub declared_line : Exchanger → Line
declared_line e = line.Exchanger e.name e.hot e.cold e.duty

-- the network: the exchangers are declared, and then each stream is led through its course
abbrev pub drawn : Case → List Exchanger → List Course → Network
drawn case exchangers courses = record {
  branches = own_branches case ++ made_branches 0 0 courses;
  lines = map declared_line exchangers ++ courses_lines (length case.streams) 0 courses;
}

-- few enough lines for a file
abbrev pub HasFewLines : Network → Type 0
HasFewLines network = length network.lines ≤ MOST_DRAWN_LINES
