-- The steps in which a network is drawn: one split, one pass and one mix of a stage, a course stage by stage, and all courses.
use Rattle.design_lines.proofs.Words.{Branch, Course, Line, Share, all_branches, append-nil, behind_splits, course_branches, course_lines, courses_lines}
use Rattle.design_lines.proofs.Words.{drop-cons, drop_all, made_branches, mixes, numbered, passes, rational_zero, rest_branch, share_branches, splits}
use Rattle.design_lines.proofs.Words.{stage_lines}
use Rattle.std.proofs.Common.{List, [], ap, append_assoc, arith, drop, get_or, length, length-append, suc, sym, ℕ, ◌*◌, ◌++◌, ◌+◌, ◌-◌, ◌<◌, ◌∙◌, ◌∷◌, ◌≡◌}
use Rattle.std.proofs.Common.{◌≤◌}
use Rattle.design_lines.proofs.BranchStreams.{length-numbered}
use Rattle.networks.specs.declared.network.Line.TheVariants as line

-- nothing, of which no rule speaks
no_share : Share
no_share = record { exchanger = 0; cp = rational_zero }

one_left : (shares : List Share) (i : ℕ) (d : Share) → suc i ≡ length shares → drop i shares ≡ get_or shares i d ∷ []
one_left shares i d last =
    drop-cons shares i d (omega (arith, last))
    ∙ ap (λ ss. get_or shares i d ∷ ss) (drop_all (suc i) shares (omega (arith, last)))

pub splits_all : (free rest : ℕ) (shares : List Share) (i : ℕ) → suc i ≡ length shares
    → splits free rest (drop i shares) ≡ []
splits_all free rest shares i last = ap (splits free rest) (one_left shares i no_share last)

pub rest_all : (free rest : ℕ) (shares : List Share) (i : ℕ) → suc i ≡ length shares
    → rest_branch free rest (drop i shares) ≡ rest
rest_all free rest shares i last = ap (rest_branch free rest) (one_left shares i no_share last)

-- the passes of the shares from an index on
abbrev pub passes_from : ℕ → ℕ → ℕ → List Share → List Line
passes_from to branch rest shares = passes to (share_branches branch rest shares) shares

pub mixes_more : (n to first second m after beside : ℕ) → n ≡ suc m → after ≡ to + 1 → beside ≡ second + 1
    → mixes n to first second ≡ line.Mix first second to ∷ mixes m after to beside
mixes_more n to first second m after beside one two three =
    ap (λ k. mixes k to first second) one ∙ ap (λ k. line.Mix first second to ∷ mixes m k to (second + 1)) (sym two)
    ∙ ap (λ k. line.Mix first second to ∷ mixes m after to k) (sym three)

-- the three kinds of lines, one behind the other
pub stage_joined : (next from rest more : ℕ) (shares : List Share) (old one two three : List Line)
    → 0 < length shares → more ≡ length shares - 1
    → one ≡ old ++ splits next from shares → rest ≡ rest_branch next from shares
    → two ≡ one ++ passes (behind_splits next shares) (share_branches next rest shares) shares
    → three ≡ two ++ mixes more (next + 2 * more + more + 1) (next + 2 * more) (next + 2 * more + 1)
    → three ≡ old ++ stage_lines next from shares
unfolding stage_lines
stage_joined next from rest more shares old one two three some all split left pass mix =
    let behind = behind_splits next shares in
    let ps = passes behind (share_branches next (rest_branch next from shares) shares) shares in
    let ms = mixes (length shares - 1) (behind + length shares) behind (behind + 1) in
    let same_from : next + 2 * more ≡ behind = ap (λ n. next + 2 * n) all in
    let mixed : mixes more (next + 2 * more + more + 1) (next + 2 * more) (next + 2 * more + 1) ≡ ms =
    ap (λ n. mixes n (next + 2 * more + more + 1) (next + 2 * more) (next + 2 * more + 1)) all
    ∙ ap (λ to. mixes (length shares - 1) to (next + 2 * more) (next + 2 * more + 1)) (omega (arith, all, some))
    ∙ ap (λ f. mixes (length shares - 1) (behind + length shares) f (f + 1)) same_from in
    let passed : two ≡ one ++ ps = pass ∙ ap (λ r. one ++ passes behind (share_branches next r shares) shares) left in
    mix ∙ ap (λ ls. two ++ ls) mixed ∙ ap (λ ls. ls ++ ms) passed ∙ ap (λ ls. ls ++ ps ++ ms) split
    ∙ append_assoc (old ++ splits next from shares) ps ms ∙ append_assoc old (splits next from shares) (ps ++ ms)

-- A network is drawn course by course, and a course stage by stage.

-- the item of a loop is the next one of those that are left
pub next_item : {X : Type 0} (xs : List X) (i : ℕ) (x : X) → i < length xs → x ≡ get_or xs i x
    → drop i xs ≡ x ∷ drop (i + 1) xs
next_item xs i x within is =
    let next : suc i ≡ i + 1 = omega arith in
    drop-cons xs i x within ∙ ap (λ y. y ∷ drop (suc i) xs) (sym is) ∙ ap (λ k. x ∷ drop k xs) next

-- ---- a course

-- the lines so far and those that are left are the lines of the course; the branch that is led is `at`, and the next one is `free`
pub record IsCourseLed (course : Course) (stream next : ℕ) (old : List Line) (number : ℕ) (lines : List Line)
    (free at : ℕ) : Type 0 where
  pub drawn : lines ++ course_lines free at (drop number course) ≡ old ++ course_lines next stream course
  pub many : free + course_branches (drop number course) ≡ next + course_branches course

-- ---- all courses

-- the lines and branches so far and those that are left are those of all courses
pub record AreCoursesLed (courses : List Course) (own : ℕ) (old_lines : List Line)
    (old_branches : List Branch) (number : ℕ) (lines : List Line) (branches : List Branch) : Type 0 where
  pub drawn : lines ++ courses_lines (length branches) number (drop number courses)
      ≡ old_lines ++ courses_lines own 0 courses
  pub made : branches ++ made_branches (length branches - own) number (drop number courses)
      ≡ old_branches ++ made_branches 0 0 courses
  pub many : length branches + all_branches (drop number courses) ≡ own + all_branches courses
  pub least : own ≤ length branches

module _ (courses : List Course) (own : ℕ) (old_lines : List Line) (old_branches : List Branch) where
  pub courses_start : length old_branches ≡ own
      → AreCoursesLed courses own old_lines old_branches 0 old_lines old_branches
  courses_start count =
      record {
        drawn = ap (λ (k : ℕ). old_lines ++ courses_lines k 0 courses) count;
        made = ap (λ (k : ℕ). old_branches ++ made_branches k 0 courses) (omega (arith, count));
        many = ap (λ (k : ℕ). k + all_branches courses) count;
        least = omega (arith, count);
      }

  module _ (number : ℕ) (lines : List Line) (branches : List Branch)
      (led : AreCoursesLed courses own old_lines old_branches number lines branches) where
    pub courses_next : (after_lines : List Line) (after_branches : List Branch) (course : Course) (free : ℕ)
        → drop number courses ≡ course ∷ drop (number + 1) courses
        → after_lines ≡ lines ++ course_lines (length branches) number course
        → free ≡ length branches + course_branches course
        → after_branches ≡ branches ++ numbered (length branches - own) number (free - length branches)
        → AreCoursesLed courses own old_lines old_branches (number + 1) after_lines after_branches
    courses_next after_lines after_branches course free left drawn frees made =
        let rest = drop (number + 1) courses in
        let n = length branches in
        let k = course_branches course in
        let count : free - n ≡ k = omega (arith, frees) in
        let parts : after_branches ≡ branches ++ numbered (n - own) number k
        = made ∙ ap (λ (j : ℕ). branches ++ numbered (n - own) number j) count in
        let long : length after_branches ≡ n + k
        = ap length parts ∙ length-append branches (numbered (n - own) number k)
        ∙ ap (λ (j : ℕ). n + j) (length-numbered (n - own) number k) in
        let many : n + (k + all_branches rest) ≡ own + all_branches courses
        = ap (λ (cs : List Course). n + all_branches cs) (sym left) ∙ led.many in
        record {
          drawn = ap (λ (ls : List Line). ls ++ courses_lines (length after_branches) (number + 1) rest) drawn
              ∙ ap (λ (j : ℕ). (lines ++ course_lines n number course) ++ courses_lines j (number + 1) rest) long
              ∙ append_assoc lines (course_lines n number course) (courses_lines (n + k) (number + 1) rest)
              ∙ ap (λ (cs : List Course). lines ++ courses_lines n number cs) (sym left) ∙ led.drawn;
          made =
              ap (λ (bs : List Branch). bs ++ made_branches (length after_branches - own) (number + 1) rest) parts
              ∙ ap (λ (j : ℕ). (branches ++ numbered (n - own) number k) ++ made_branches j (number + 1) rest)
              (omega (arith, long, led.least))
              ∙ append_assoc branches (numbered (n - own) number k) (made_branches (n - own + k) (number + 1) rest)
              ∙ ap (λ (cs : List Course). branches ++ made_branches (n - own) number cs) (sym left) ∙ led.made;
          many = omega (arith, long, many);
          least = omega (arith, long, led.least);
        }

    -- behind the last course they are those of all courses
    pub courses_end : length courses ≤ number
        → (lines ≡ old_lines ++ courses_lines own 0 courses) × (branches ≡ old_branches ++ made_branches 0 0 courses)
    courses_end upto =
        let none = drop_all number courses upto in (
          sym (append-nil lines)
              ∙ ap (λ (cs : List Course). lines ++ courses_lines (length branches) number cs) (sym none)
              ∙ led.drawn,
          sym (append-nil branches)
              ∙ ap (λ (cs : List Course). branches ++ made_branches (length branches - own) number cs) (sym none)
              ∙ led.made,
        )
