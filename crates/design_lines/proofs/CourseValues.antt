-- The values that a whole stage makes, those that a course makes, and those that all courses make.
use Rattle.design_lines.proofs.Words.{All-head, All-tail, BranchValue, Case, IsFullEnd, Network, Rational, Share, Stream, Valuation, behind_splits}
use Rattle.design_lines.proofs.Words.{branch_side, course_branches, course_lines, courses_lines, first_state, first_value, full_size, last_state, last_value}
use Rattle.design_lines.proofs.Words.{length-map, mixes, option_map, passes, plus, plus-zero, plus_assoc, rational_zero, rest_branch, same_Some}
use Rattle.design_lines.proofs.Words.{share_branches, side_of, splits, stage_end, stage_lines, stream_at, unwrap_or}
use Rattle.std.proofs.Common.{All, List, Some, [], ap, append-nil, append_assoc, arith, length, length-append, refl, slice_get, subst, suc, sym, ℕ, ◌*◌, ◌++◌}
use Rattle.std.proofs.Common.{◌+◌, ◌-◌, ◌<◌, ◌∙◌, ◌∷◌, ◌≡◌, ◌≤◌}
use Rattle.design_lines.proofs.ValueSteps.{Carries, MakeAndRun, StageRuns, carries_more, carries_new, first_positive, mixes_make, others_positive, passes_make}
use Rattle.design_lines.proofs.ValueSteps.{run_append, run_line, run_none, share_value, splits_make}
use Rattle.design_lines.proofs.Walks.{branches_hold}
use Rattle.design_lines.specs.LedStages.{LedStage, Meet}
use Rattle.design_lines.proofs.StageValues.{AreLedFrom, AreOfStream, IsLedStage, Make, course_values, courses_along, courses_values, mix_values}
use Rattle.design_lines.specs.LedStages.{size_of, state_behind}
use Rattle.design_lines.proofs.StageValues.{pass_values, shares_along, split_values, stage_values}
use Rattle.stream_case.specs.declared.source.Side.TheVariants as side
use Rattle.stream_case.specs.declared.source.Source.TheVariants as source
use Rattle.networks.specs.declared.network.Line.TheVariants as line

-- a branch of some size and state
abbrev pub value_of : Rational → Rational → BranchValue
value_of size t = record { cp = size; t = t }

-- ---- the branches of the shares

pub length-split_values : (before : Rational) (shares : List Share)
    → length (split_values before shares) ≡ 2 * (length shares - 1)
length-split_values before [] = omega arith
length-split_values before (s ∷ []) = omega arith
length-split_values before (s ∷ t ∷ shares) =
    let rest = length-split_values before (t ∷ shares) in
    omega (arith, rest)

-- ---- behind the mixes

pub mixes_end : (after size : Rational) (shares : List Share) (values : Valuation) (first end : ℕ)
    → Carries values first (value_of size after)
    → (length shares ≡ 0 → end ≡ first) → (0 < length shares → end + 1 ≡ length values + length shares)
    → Carries (values ++ mix_values after size shares) end (value_of (plus size (size_of shares)) after)
mixes_end after size [] values first end carries none some =
    let same : end ≡ first = none refl in
    let carried = carries_more values [] first (value_of size after) carries in
    subst (λ k. Carries (values ++ []) k (value_of (plus size rational_zero) after)) (sym same)
    (subst (λ a. Carries (values ++ []) first (value_of a after)) (sym (plus-zero size)) carried)
mixes_end after size (s ∷ shares) values first end carries none some =
    let both = plus size s.cp in
    let one : List BranchValue = value_of both after ∷ [] in
    let number : end + 1 ≡ length values + (length shares + 1) = omega (arith, some (omega arith)) in
    let carries_both = carries_new values one 0 (length values) (omega arith) (omega arith) in
    let rest = mixes_end after both shares (values ++ one) (length values) end carries_both
    (λ last. omega (arith, number, last)) (λ more. omega (arith, number, length-append values one)) in
    let same_values = append_assoc values one (mix_values after both shares) in
    subst (λ a. Carries (values ++ value_of both after ∷ mix_values after both shares) end (value_of a after))
    (plus_assoc size s.cp (size_of shares))
    (subst (λ vs. Carries vs end (value_of (plus both (size_of shares)) after)) same_values rest)

-- ---- a stage

module _ (case : Case) (network : Network) (R : ℕ → ℕ → Rational → Rational → Type 0) (stream : ℕ) (s : Stream)
    (here : slice_get case.streams stream ≡ Some s) where
  pub side_is : (branch : ℕ) → stream_at network.branches branch ≡ stream → branch_side case network branch ≡ s.side
  unfolding branch_side
  side_is branch of_stream =
      ap (λ k. unwrap_or (side_of case (source.Stream k)) side.Hot) of_stream
      ∙ ap (λ o. unwrap_or (option_map (λ (a : Stream). a.side) o) side.Hot) here

  -- before a stage: the branch of the stream carries all of it, in the state in which the stage begins, and the shares run as `R` asks
  pub record IsBefore (values : Valuation) (next from : ℕ) (stage : LedStage) : Type 0 where
    pub led : IsLedStage network s.side (full_size s) stage
    pub start : next ≡ length values
    pub carries : Carries values from (value_of (full_size s) stage.before)
    pub own : stream_at network.branches from ≡ stream
    pub others : (b : ℕ) → next ≤ b → b < next + 2 * (length stage.shares - 1) → stream_at network.branches b ≡ stream
    pub runs : StageRuns case network R stream stage

  -- its lines make its values, and its last branch is the whole stream in the state after it
  pub record IsStageMade (values : Valuation) (next from : ℕ) (stage : LedStage) : Type 0 where
    pub made : MakeAndRun case network R values (stage_lines next from stage.shares)
        (stage_values stage.before stage.after stage.shares)
    pub ends : Carries (values ++ stage_values stage.before stage.after stage.shares) (stage_end next stage.shares)
        (value_of (full_size s) stage.after)
    pub next_is : stage_end next stage.shares + 1
        ≡ length (values ++ stage_values stage.before stage.after stage.shares)

  made_stage : (before after : Rational) (shares : List Share) (values : Valuation) (next from : ℕ)
      → IsBefore values next from (record { before = before; after = after; shares = shares })
      → IsStageMade values next from (record { before = before; after = after; shares = shares })
  unfolding stage_lines
  made_stage before after [] values next from is = absurd (omega (arith, is.led.some))
  made_stage before after (first ∷ shares) values next from is =
      let all = first ∷ shares in
      let led = is.led in
      let behind = behind_splits next all in
      let divided = split_values before all in
      let passed = pass_values after all in
      let mixed = mix_values after first.cp shares in
      let branches = share_branches next (rest_branch next from all) all in
      let ps = passes behind branches all in
      let ms = mixes (length all - 1) (behind + length all) behind (behind + 1) in
      let of_stream = branches_hold (λ b. stream_at network.branches b ≡ stream) next from all is.own is.others in
      let whole_size = subst (λ a. Carries values from (value_of a before)) (sym led.sizes) is.carries in
      let split_makes = splits_make case network R before all values next from is.start whole_size led.positive in
      let behind_is : behind ≡ length (values ++ divided)
      = omega (arith, is.start, length-append values divided, length-split_values before all) in
      let pass_makes = passes_make case network R stream s.side before after behind branches all (values ++ divided)
      behind_is split_makes.1 of_stream side_is led.positive led.duties is.runs in
      let from_there = pass_makes.1 in
      let mixed_from : behind + length all ≡ length ((values ++ divided) ++ passed) =
      omega (
        arith,
        behind_is,
        length-append (values ++ divided) passed,
        length-map all (λ (a : Share). share_value after a),
      ) in
      let first_above = first_positive first shares led.positive in
      let others_above = others_positive first shares led.positive in
      let mix_makes = mixes_make case network R after (length all - 1) (behind + length all) behind (behind + 1)
      first.cp shares ((values ++ divided) ++ passed) (omega arith) mixed_from from_there.0 from_there.1 first_above
      others_above in
      let end = stage_end next all in
      let last = mixes_end after first.cp shares ((values ++ divided) ++ passed) behind end from_there.0
      (λ none. omega (arith, none)) (λ some. omega (arith, mixed_from, some)) in
      let joined : ((values ++ divided) ++ passed) ++ mixed ≡ values ++ (divided ++ (passed ++ mixed))
      = append_assoc (values ++ divided) passed mixed
      ∙ append_assoc values divided (passed ++ mixed) in
      record {
        made =
            run_append case network R values (splits next from all) (ps ++ ms) divided (passed ++ mixed) split_makes.0
            (run_append case network R (values ++ divided) ps ms passed mixed pass_makes.0 mix_makes);
        ends = subst (λ vs. Carries vs end (value_of (full_size s) after)) joined
            (subst (λ a. Carries (((values ++ divided) ++ passed) ++ mixed) end (value_of a after)) led.sizes last);
        next_is =
            omega (
              arith,
              mixed_from,
              length-append ((values ++ divided) ++ passed) mixed,
              length-mix_values after first.cp shares,
            )
            ∙ ap length joined;
      }
    where
      length-mix_values : (t size : Rational) (ss : List Share) → length (mix_values t size ss) ≡ length ss
      length-mix_values t size [] = refl
      length-mix_values t size (a ∷ ss) =
          let rest = length-mix_values t (plus size a.cp) ss in
          omega (arith, rest)

  pub stage_made : (stage : LedStage) (values : Valuation) (next from : ℕ) → IsBefore values next from stage
      → IsStageMade values next from stage
  stage_made stage values next from is = made_stage stage.before stage.after stage.shares values next from is

-- The values that a course makes, and those that all courses make.

module _ (case : Case) (network : Network) (R : ℕ → ℕ → Rational → Rational → Type 0) (stream : ℕ) (s : Stream)
    (here : slice_get case.streams stream ≡ Some s) where
  full_end : (values : Valuation) (branch : ℕ) (t : Rational) → stream_at network.branches branch ≡ stream
      → Carries values branch (value_of (full_size s) t)
      → t ≡ last_state s → IsFullEnd case network values branch
  full_end values branch t of_stream carries ends other at =
      carries.is ∙ ap (value_of (full_size s)) ends
      ∙ ap last_value (same_Some s other (sym here ∙ ap (slice_get case.streams) (sym of_stream) ∙ at))

  -- before the stages of a course that are left: the stream is in the state t, and they run as `R` asks
  record IsOnCourse (values : Valuation) (next from : ℕ) (t : Rational) (stages : List LedStage) : Type 0 where
    start : next ≡ length values
    carries : Carries values from (value_of (full_size s) t)
    led : All (IsLedStage network s.side (full_size s)) stages
    meet : Meet t stages
    ends : state_behind t stages ≡ last_state s
    own : stream_at network.branches from ≡ stream
    others : AreOfStream network stream next (course_branches (shares_along stages))
    runs : All (StageRuns case network R stream) stages

  -- the lines of a course make its values, which are as many as the branches that it makes, and its passes run as `R` asks
  record IsCourseMade (values : Valuation) (next from : ℕ) (stages : List LedStage) : Type 0 where
    made : MakeAndRun case network R values (course_lines next from (shares_along stages)) (course_values stages)
    next_is : next + course_branches (shares_along stages) ≡ length (values ++ course_values stages)

  course_made : (stages : List LedStage) (values : Valuation) (next from : ℕ) (t : Rational)
      → IsOnCourse values next from t stages
      → IsCourseMade values next from stages
  course_made [] values next from t is = record {
    made =
        let ends = full_end values from t is.own is.carries is.ends in
        run_line case network R values (line.End from) [] [] [] refl ends (λ final more at. tt)
        (run_none case network R (values ++ []));
    next_is = omega (arith, is.start) ∙ ap length (sym (append-nil values));
  }
  course_made (stage ∷ stages) values next from t is =
      let L : LedStage → Type 0 = IsLedStage network s.side (full_size s) in
      let first = All-head L stage stages is.led in
      let some = first.some in
      let made = stage_values stage.before stage.after stage.shares in
      let end = stage_end next stage.shares in
      let later_lines = course_lines (end + 1) end (shares_along stages) in
      let one = stage_made case network R stream s here stage values next from (record {
        led = first;
        start = is.start;
        carries = subst (λ a. Carries values from (value_of (full_size s) a)) (sym is.meet.0) is.carries;
        own = is.own;
        others = λ b low high. is.others b low (omega (arith, high));
        runs = All-head (StageRuns case network R stream) stage stages is.runs;
      }) in
      let rest = course_made stages (values ++ made) (end + 1) end stage.after (record {
        start = one.next_is;
        carries = one.ends;
        led = All-tail L stage stages is.led;
        meet = is.meet.1;
        ends = is.ends;
        own = is.others end (omega arith) (omega arith);
        others = λ b low high. is.others b (omega (arith, low)) (omega (arith, high));
        runs = All-tail (StageRuns case network R stream) stage stages is.runs;
      }) in
      record {
        made =
            run_append case network R values (stage_lines next from stage.shares) later_lines made
            (course_values stages) one.made rest.made;
        next_is = omega (arith, rest.next_is) ∙ ap length (append_assoc values made (course_values stages));
      }

-- ---- all courses

-- each stream from number `stream` on has its own branch, with its first value
pub record HaveOwn (case : Case) (values : Valuation) : Type 0 where
  pub each : (stream : ℕ) (s : Stream) → slice_get case.streams stream ≡ Some s → Carries values stream (first_value s)

own_more : (case : Case) (values more : Valuation) → HaveOwn case values → HaveOwn case (values ++ more)
own_more case values more own =
    record { each = λ stream s here. carries_more values more stream (first_value s) (own.each stream s here) }

module _ (case : Case) (network : Network) (R : ℕ → ℕ → Rational → Rational → Type 0) where
  -- the shares of the course at each index run as `R` asks of the stream with that number
  abbrev pub EachRuns : ℕ → List (List LedStage) → Type 0
  EachRuns stream courses =
      (k : ℕ) (course : List LedStage) → slice_get courses k ≡ Some course
      → All (StageRuns case network R (stream + k)) course

  pub made_courses : (courses : List (List LedStage)) (values : Valuation) (next stream : ℕ)
      → next ≡ length values → HaveOwn case values
      → AreLedFrom case network next stream courses → EachRuns stream courses
      → MakeAndRun case network R values (courses_lines next stream (courses_along courses)) (courses_values courses)
  made_courses [] values next stream start own led runs = run_none case network R values
  made_courses (course ∷ courses) values next stream start own led runs =
      let (s, here, is) = led.0 in
      let made = course_values course in
      let last = next + course_branches (shares_along course) in
      let later_lines = courses_lines last (stream + 1) (courses_along courses) in
      let one = course_made case network R stream s here course values next stream (first_state s) (record {
        start = start;
        carries = own.each stream s here;
        led = is.led;
        meet = is.joined;
        ends = is.ends;
        own = led.1;
        others = led.2;
        runs = subst (λ k. All (StageRuns case network R k) course) (omega arith) (runs 0 course refl);
      }) in
      let rest = made_courses courses (values ++ made) last (stream + 1) one.next_is (own_more case values made own)
      led.3
      (λ k other there. subst (λ n. All (StageRuns case network R n) other) (omega arith) (runs (suc k) other there)) in
      run_append case network R values (course_lines next stream (shares_along course)) later_lines made
      (courses_values courses) one.made rest

pub courses_made : (case : Case) (network : Network) (courses : List (List LedStage)) (values : Valuation)
    (next stream : ℕ)
    → next ≡ length values → HaveOwn case values → AreLedFrom case network next stream courses
    → Make case network values (courses_lines next stream (courses_along courses)) (courses_values courses)
courses_made case network courses values next stream start own led =
    (made_courses case network (λ k exchanger before after. Unit {0}) courses values next stream start own led
    (λ k course at i stage within j share inside. tt)).makes
