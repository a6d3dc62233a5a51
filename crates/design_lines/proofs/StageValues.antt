-- What the branches of a drawn network carry, in the order of their numbers: a stream has one state before each of its stages, and one after it.
use Rattle.std.specs.Prelude.{◌≡◌, ℕ, ◌+◌, ◌<◌, ◌≤◌, List, [], ◌∷◌, ◌++◌, length, map, All, Some, slice_get}
use Rattle.stream_case.specs.declared.case.Case.{Case}
use Rattle.stream_case.specs.declared.source.Side.{Side}
use Rattle.stream_case.specs.declared.stream.Stream.{Stream}
use Rattle.fractions.specs.Rationals.{IsBelow, Rational, plus, rational_zero, times}
use Rattle.networks.specs.Lines.{stream_at}
use Rattle.networks.specs.declared.network.Line.{Line}
use Rattle.networks.specs.declared.network.Line.TheVariants as line
use Rattle.networks.specs.declared.network.Network.{Network}
use Rattle.network_values.specs.Made.{made_values}
use Rattle.network_values.specs.Values.{IsFullEnd, Valuation, change, duty_at, first_state, full_size, last_state, value_at}
use Rattle.network_values.specs.declared.values.BranchValue.{BranchValue}
use Rattle.design_lines.specs.Drawn.{Course, course_branches}
use Rattle.design_lines.specs.LedStages.{LedStage, Meet, size_of, state_behind}
use Rattle.design_lines.specs.declared.stage.Share.{Share}

-- ---- a stage

-- the splits make each share, and what is left for those behind it
abbrev pub split_values : Rational → List Share → List BranchValue
split_values before [] = []
split_values before (s ∷ []) = []
split_values before (s ∷ t ∷ shares) =
    record { cp = s.cp; t = before } ∷ record { cp = size_of (t ∷ shares); t = before }
    ∷ split_values before (t ∷ shares)

-- the passes make each share, in the state behind its exchanger
abbrev pub pass_values : Rational → List Share → List BranchValue
pass_values after shares = map (λ s. record { cp = s.cp; t = after }) shares

-- the mixes join a branch of some size with each share in turn
abbrev pub mix_values : Rational → Rational → List Share → List BranchValue
mix_values after size [] = []
mix_values after size (s ∷ shares) =
    record { cp = plus size s.cp; t = after } ∷ mix_values after (plus size s.cp) shares

-- the first share with all others
abbrev pub joined_values : Rational → List Share → List BranchValue
joined_values after [] = []
joined_values after (s ∷ shares) = mix_values after s.cp shares

abbrev pub stage_values : Rational → Rational → List Share → List BranchValue
stage_values before after shares =
    split_values before shares ++ (pass_values after shares ++ joined_values after shares)

-- the shares have sizes that are the full size together, and the duty of each one's exchanger brings it from the one state to the other
pub record IsLedStage (network : Network) (of : Side) (full : Rational) (stage : LedStage) : Type 0 where
  pub some : 0 < length stage.shares
  pub positive : All (λ s. IsBelow rational_zero s.cp) stage.shares
  pub sizes : size_of stage.shares ≡ full
  pub duties : All (λ s. times s.cp (change of stage.before stage.after) ≡ duty_at network s.exchanger) stage.shares

-- ---- a course

abbrev pub shares_along : List LedStage → Course
shares_along stages = map (λ stage. stage.shares) stages

abbrev pub course_values : List LedStage → List BranchValue
course_values [] = []
course_values (stage ∷ stages) = stage_values stage.before stage.after stage.shares ++ course_values stages

-- a stream is led from its first state to its last
pub record IsLedStream (network : Network) (s : Stream) (stages : List LedStage) : Type 0 where
  pub led : All (IsLedStage network s.side (full_size s)) stages
  pub joined : Meet (first_state s) stages
  pub ends : state_behind (first_state s) stages ≡ last_state s

-- ---- all courses

abbrev pub courses_along : List (List LedStage) → List Course
courses_along courses = map shares_along courses

abbrev pub courses_values : List (List LedStage) → List BranchValue
courses_values [] = []
courses_values (course ∷ courses) = course_values course ++ courses_values courses

-- these branches are a stream's
abbrev pub AreOfStream : Network → ℕ → ℕ → ℕ → Type 0
AreOfStream network stream first count =
    (branch : ℕ) → first ≤ branch → branch < first + count → stream_at network.branches branch ≡ stream

-- the streams from number `stream` on are led, each by the branches of its course, which are numbered from `next` on
abbrev pub AreLedFrom : Case → Network → ℕ → ℕ → List (List LedStage) → Type 0
AreLedFrom case network next stream [] = Unit {0}
AreLedFrom case network next stream (course ∷ courses) =
    ((s : Stream) × (slice_get case.streams stream ≡ Some s) × IsLedStream network s course)
    × (stream_at network.branches stream ≡ stream)
    × AreOfStream network stream next (course_branches (shares_along course))
    × AreLedFrom case network (next + course_branches (shares_along course)) (stream + 1) courses

-- ---- lines

-- a split leaves something of its branch, and an end has the whole stream in its last state
abbrev pub CanFollow : Case → Network → Valuation → Line → Type 0
CanFollow case network values (line.Exchanger name hot cold duty) = Unit {0}
CanFollow case network values (line.Split from first size second) = IsBelow size (value_at values from).cp
CanFollow case network values (line.Pass from exchanger to) = Unit {0}
CanFollow case network values (line.Mix first second to) = Unit {0}
CanFollow case network values (line.End branch) = IsFullEnd case network values branch

-- the values after lines, each of which adds what it makes
abbrev pub values_after : Case → Network → Valuation → List Line → Valuation
values_after case network values [] = values
values_after case network values (l ∷ lines) =
    values_after case network (values ++ made_values case network values l) lines

abbrev pub AllCanFollow : Case → Network → Valuation → List Line → Type 0
AllCanFollow case network values [] = Unit {0}
AllCanFollow case network values (l ∷ lines) =
    CanFollow case network values l × AllCanFollow case network (values ++ made_values case network values l) lines

-- the lines make these values, one behind the other
pub record Make (case : Case) (network : Network) (values : Valuation) (lines : List Line)
    (made : List BranchValue) : Type 0 where
  pub made_is : values_after case network values lines ≡ values ++ made
  pub follow : AllCanFollow case network values lines
