-- A drawn network ends each stream once, in their order.
use Rattle.design_lines.proofs.Walks.{Keeps, walk_course}
use Rattle.design_lines.proofs.Words.{Case, Contains, Course, Exchanger, Line, Network, Share, course_branches, course_lines, courses_lines, declared_line}
use Rattle.design_lines.proofs.Words.{ended_by, ended_streams, ends, flat_map, flat_map-append, range_with_len, stream_at, sum_by}
use Rattle.design_lines.specs.LedStages.{LedStage}
use Rattle.design_lines.proofs.StageValues.{AreLedFrom, AreOfStream, courses_along, shares_along}
use Rattle.std.proofs.Common.{List, [], ap, arith, get_or, length, map, refl, ℕ, ◌++◌, ◌+◌, ◌<◌, ◌∙◌, ◌∷◌, ◌≡◌}
use Rattle.std.proofs.lemmas.List.FromFn.{get_or-range_with_len, length-range_with_len}

no_end-first : (one two : List Line) → flat_map ends one ≡ [] → flat_map ends (one ++ two) ≡ flat_map ends two
no_end-first one two none = flat_map-append ends one two ∙ ap (λ bs. bs ++ flat_map ends two) none

pub no_end-declared : (exchangers : List Exchanger) → flat_map ends (map declared_line exchangers) ≡ []
no_end-declared [] = refl
no_end-declared (e ∷ exchangers) = no_end-declared exchangers

-- ---- a course ends its stream

abbrev streams_of : Network → List Line → List ℕ
streams_of network lines = map (stream_at network.branches) (flat_map ends lines)

course_ends : (network : Network) (stream : ℕ) (course : Course) (lines : List Line) (next : ℕ)
    → stream_at network.branches stream ≡ stream
    → AreOfStream network stream next (course_branches course)
    → streams_of network (course_lines next stream course ++ lines) ≡ stream ∷ streams_of network lines
course_ends network stream course lines next own others =
    let B : ℕ → ℕ → Type 0 = λ n b. stream_at network.branches b ≡ stream in
    let S : ℕ → ℕ → List Line → Type 0 = λ n w ls. streams_of network ls ≡ stream ∷ streams_of network lines in
    let keep : Keeps S B (λ s. Unit {0}) (λ b. 0) (λ s. 0) (λ shares. Unit {0}) = record {
      split = λ n from w all left s ls share of_from of_first of_second sum sums more. more;
      pass = λ n from w all left s ls share of_from of_to sum sums more. more;
      mix = λ n first second w all left ls of_first of_second of_to sum sums more. more;
      none = λ is n w all ls more. more;
    } in
    let last = next + course_branches course in
    walk_course S B (λ s. Unit {0}) (λ b. 0) (λ s. 0) (λ shares. Unit {0}) keep next last
    (λ k low n more high. others k low (omega (arith, more, high))) next stream 0
    (0 + (sum_by (λ shares. sum_by (λ (s : Share). 0) shares) course + 0)) course lines (λ k d within. tt)
    (λ k d within j e inside. tt) (omega arith) (omega arith) (λ n low high. own) (omega arith)
    (λ b of_b. ap (λ k. k ∷ streams_of network lines) of_b)

courses_end : (case : Case) (network : Network) (courses : List (List LedStage)) (next stream : ℕ)
    → AreLedFrom case network next stream courses
    → streams_of network (courses_lines next stream (courses_along courses)) ≡ range_with_len stream (length courses)
courses_end case network [] next stream led = refl
courses_end case network (course ∷ courses) next stream led =
    let shares = shares_along course in
    let last = next + course_branches shares in
    course_ends network stream shares (courses_lines last (stream + 1) (courses_along courses)) next led.1 led.2
    ∙ ap (λ ks. stream ∷ ks) (courses_end case network courses last (stream + 1) led.3)

-- the lines of a network are declarations and the courses of all its streams
pub each_ended : (case : Case) (network : Network) (declared : List Line) (courses : List (List LedStage)) (next : ℕ)
    → flat_map ends declared ≡ []
    → network.lines ≡ declared ++ courses_lines next 0 (courses_along courses) → AreLedFrom case network next 0 courses
    → (stream : ℕ) → stream < length courses → Contains (ended_streams network) stream
unfolding ended_streams ended_by
each_ended case network declared courses next none lines_are led stream within =
    let all : ended_streams network ≡ range_with_len 0 (length courses) =
    ap (streams_of network) lines_are
    ∙ ap (map (stream_at network.branches)) (no_end-first declared (courses_lines next 0 (courses_along courses)) none)
    ∙ courses_end case network courses next 0 led in
    let long = ap length all ∙ length-range_with_len 0 (length courses) in
    let number : 0 + stream ≡ stream = omega arith in (
      stream,
      omega (arith, long, within),
      ap (λ ks. get_or ks stream stream) all ∙ get_or-range_with_len 0 (length courses) stream stream within ∙ number,
    )
