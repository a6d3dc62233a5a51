-- The streams of the branches of a drawn network, so that the streams of its courses are led.
use Rattle.design_lines.proofs.Walks.{Follow}
use Rattle.design_lines.proofs.Words.{Branch, Case, Course, Network, Stream, branch_name, course_branches, enumerate_from, get_or-append-add}
use Rattle.design_lines.proofs.Words.{get_or-map-range_with_len, get_or_append_left, length-map, length-map-range_with_len, made_branches, many_own, numbered}
use Rattle.design_lines.proofs.Words.{own_branch, own_branches, slice_get-get_or, slice_get_within, stream_at, stream_at-get_or}
use Rattle.design_lines.specs.LedStages.{LedStage}
use Rattle.design_lines.proofs.StageValues.{AreLedFrom, IsLedStream, courses_along, shares_along}
use Rattle.std.proofs.Common.{List, Some, [], ap, append_assoc, arith, get_or, length, length-append, map, refl, slice_get, subst, suc, sym, zero, ℕ, ◌++◌}
use Rattle.std.proofs.Common.{◌+◌, ◌-◌, ◌<◌, ◌∙◌, ◌∷◌, ◌≡◌, ◌≤◌}

-- a stream's own branch is its
pub stream_at-own : (case : Case) (more : List Branch) (number : ℕ) → number < length case.streams
    → stream_at (own_branches case ++ more) number ≡ number
unfolding own_branches
stream_at-own case more number within =
    let own = map own_branch (enumerate_from 0 case.streams) in
    let no_branch : Branch = record { name = []; stream = 0 } in
    let inside : number < length own = omega (arith, within, many_own case) in
    let none : 0 + number ≡ number = omega arith in
    stream_at-get_or (own ++ more) number no_branch (omega (arith, inside, length-append own more))
    ∙ ap (λ (b : Branch). b.stream) (get_or_append_left own more no_branch number inside)
    ∙ numbers 0 case.streams number no_branch within ∙ none
  where
    numbers : (n : ℕ) (streams : List Stream) (k : ℕ) (d : Branch) → k < length streams
        → (get_or (map own_branch (enumerate_from n streams)) k d).stream ≡ n + k
    numbers n [] k d inside = absurd (omega (arith, inside))
    numbers n (s ∷ streams) zero d inside = omega arith
    numbers n (s ∷ streams) (suc k) d inside =
        let rest = numbers (n + 1) streams k d (omega (arith, inside)) in
        omega (arith, rest)

pub length-numbered : (first stream count : ℕ) → length (numbered first stream count) ≡ count
length-numbered first stream count =
    length-map-range_with_len {X = Branch} (λ k. record { name = branch_name k; stream = stream }) first count

-- the branches that a course makes are its stream's
numbered-stream : (front later : List Branch) (first stream count k : ℕ) → length front ≤ k → k < length front + count
    → stream_at (front ++ (numbered first stream count ++ later)) k ≡ stream
numbered-stream front later first stream count k low high =
    let make : ℕ → Branch = λ n. record { name = branch_name n; stream = stream } in
    let here = numbered first stream count in
    let long = length-numbered first stream count in
    let j = k - length front in
    let index : length front + j ≡ k = omega (arith, low) in
    let inside : j < count = omega (arith, low, high) in
    let within : length front + j < length (front ++ (here ++ later)) =
    omega (arith, length-append front (here ++ later), length-append here later, long, inside) in
    let item : get_or (front ++ (here ++ later)) (length front + j) (make 0) ≡ make (first + j) =
    get_or-append-add front (here ++ later) j (make 0)
    ∙ get_or_append_left here later (make 0) j (omega (arith, inside, long))
    ∙ get_or-map-range_with_len make first count j (first + j) (make 0) inside refl in
    ap (stream_at (front ++ (here ++ later))) (sym index)
    ∙ stream_at-get_or (front ++ (here ++ later)) (length front + j) (make 0) within
    ∙ ap (λ (b : Branch). b.stream) item

-- each branch of a course is one of its stream
abbrev pub AreOfStreams : List Branch → ℕ → ℕ → List Course → Type 0
AreOfStreams branches next stream courses = Follow (λ k n b. stream_at branches b ≡ k) next stream courses

pub are_of_streams : (branches front : List Branch) (next first stream : ℕ) (courses : List Course)
    → branches ≡ front ++ made_branches first stream courses
    → length front ≡ next → ((i : ℕ) → i < length courses → stream_at branches (stream + i) ≡ stream + i)
    → AreOfStreams branches next stream courses
are_of_streams branches front next first stream [] all here own = tt
are_of_streams branches front next first stream (course ∷ courses) all here own =
    let k = course_branches course in
    let made = numbered first stream k in
    let later = made_branches (first + k) (stream + 1) courses in
    let none : stream + 0 ≡ stream = omega arith in (
      λ n low high. subst (λ m. stream_at branches m ≡ m) none (own 0 (omega arith)),
      λ j low n more high. ap (λ bs. stream_at bs j) all
          ∙ numbered-stream front later first stream k j (omega (arith, low, here))
          (omega (arith, more, high, here)),
      let parts = all ∙ sym (append_assoc front made later) in
          are_of_streams branches (front ++ made) (next + k) (first + k) (stream + 1) courses parts
          (omega (arith, here, length-append front made, length-numbered first stream k)) (λ i inside.
          let further : stream + suc i ≡ stream + 1 + i = omega arith in
          subst (λ n. stream_at branches n ≡ n) further (own (suc i) (omega (arith, inside)))),
    )

-- the course at each index is one of the stream with that number
abbrev pub IsEachLed : Case → Network → ℕ → List (List LedStage) → Type 0
IsEachLed case network stream courses =
    (k : ℕ) (course : List LedStage) → slice_get courses k ≡ Some course → (s : Stream)
    × (slice_get case.streams (stream + k) ≡ Some s) × IsLedStream network s course

led_of_streams : (case : Case) (network : Network) (courses : List (List LedStage)) (next stream : ℕ)
    → AreOfStreams network.branches next stream (courses_along courses)
    → IsEachLed case network stream courses → AreLedFrom case network next stream courses
led_of_streams case network [] next stream own each = tt
led_of_streams case network (course ∷ courses) next stream own each =
    let last = next + course_branches (shares_along course) in
    let none : stream + 0 ≡ stream = omega arith in (
      subst (λ k. (s : Stream) × (slice_get case.streams k ≡ Some s) × IsLedStream network s course) none
          (each 0 course refl),
      own.0 next (omega arith) (omega arith),
      λ branch low high. own.1 branch low last
          (omega (arith, high)) (omega arith),
      led_of_streams case network courses last (stream + 1) own.2
          (λ k other there.
          subst (λ n. (s : Stream) × (slice_get case.streams n ≡ Some s) × IsLedStream network s other) (omega arith)
          (each (suc k) other there)),
    )

pub are_led : (case : Case) (network : Network) (courses : List (List LedStage)) (before : List Branch)
    (first next stream : ℕ)
    → network.branches ≡ before ++ made_branches first stream (courses_along courses) → length before ≡ next
    → ((number : ℕ) → number < length case.streams → stream_at network.branches number ≡ number)
    → IsEachLed case network stream courses → AreLedFrom case network next stream courses
are_led case network courses before first next stream are long own each =
    led_of_streams case network courses next stream
    (are_of_streams network.branches before next first stream (courses_along courses) are long (λ i inside.
    let within : i < length courses = omega (arith, inside, length-map courses shares_along) in
    let (s, at, led) = each i (get_or courses i []) (slice_get-get_or courses i [] within) in
    own (stream + i) (slice_get_within case.streams (stream + i) s at))) each
