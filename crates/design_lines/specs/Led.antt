-- What is asked of courses, so that the network that they draw has the shape of a network.
use Rattle.std.specs.Prelude.{◌≡◌, ◌≢◌, ◌<◌, ◌≤◌, ◌==◌, ℕ, List, length, All, AllPairs, Some, slice_get, count_by, sum_by}
use Rattle.stream_case.specs.declared.case.Case.{Case}
use Rattle.networks.specs.Lines.{Exchanger}
use Rattle.networks.specs.Shape.{IsExchanger, IsPositive, Joins}
use Rattle.networks.specs.declared.limits.TheConstants.{MOST_LINES}
use Rattle.design_lines.specs.Drawn.{Course, drawn}
use Rattle.design_lines.specs.declared.stage.Share.{Share}

-- each stage has a share
abbrev pub AreStages : Course → Type 0
AreStages course = All (λ shares. 0 < length shares) course

-- a share of the stream has a size above 0, and passes an exchanger that has a side of the stream
pub record IsShareOf (exchangers : List Exchanger) (stream : ℕ) (share : Share) : Type 0 where
  pub size : IsPositive share.cp
  pub joined : (e : Exchanger) × (slice_get exchangers share.exchanger ≡ Some e) × Joins e stream

-- a course of the stream
pub record IsCourseOf (exchangers : List Exchanger) (stream : ℕ) (course : Course) : Type 0 where
  pub stages : AreStages course
  pub shares : All (λ shares. All (IsShareOf exchangers stream) shares) course

-- how many shares of a course pass the exchanger with a number
abbrev pub turns : ℕ → Course → ℕ
turns number course = sum_by (λ shares. count_by (λ s. number == s.exchanger) shares) course

-- exchangers, and for each stream a course, in which each exchanger with a side of the stream stands in one share
pub record AreLed (case : Case) (exchangers : List Exchanger) (courses : List Course) : Type 0 where
  pub declared : All (IsExchanger case) exchangers
  pub distinct : AllPairs (λ a b. a.name ≢ b.name) exchangers
  pub all : length courses ≡ length case.streams
  pub each : (stream : ℕ) (course : Course) → slice_get courses stream ≡ Some course
      → IsCourseOf exchangers stream course
  pub once : (number stream : ℕ) (e : Exchanger) (course : Course) → slice_get exchangers number ≡ Some e
      → Joins e stream
      → slice_get courses stream ≡ Some course → turns number course ≡ 1
  pub few : length (drawn case exchangers courses).lines ≤ MOST_LINES
