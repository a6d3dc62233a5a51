-- The branches that the lines of courses make, in the order of their numbers, and that a line uses branches that were
-- made before it.
use Rattle.design_lines.proofs.Words.{All-cons, All-nil, AreStages, Course, Exchanger, Line, all_branches, course_branches, courses_lines}
use Rattle.design_lines.proofs.Words.{declared_line, flat_map, made_branches, makes, numbered, range_with_len, uses}
use Rattle.std.proofs.Common.{All, List, Some, [], ap, arith, length, length-append, map, refl, slice_get, subst, suc, take, zero, ℕ, ◌++◌, ◌+◌, ◌<◌}
use Rattle.std.proofs.Common.{◌∙◌, ◌∷◌, ◌≡◌, ◌≤◌}
use Rattle.design_lines.proofs.BranchStreams.{length-numbered}
use Rattle.design_lines.proofs.Walks.{Follow, KeepAll, Simple, walk_simply}

-- the numbers that lines make count on from n, up to `last`
record MakeUpTo (last n : ℕ) (lines : List Line) : Type 0 where
  count : ℕ
  is : flat_map makes lines ≡ range_with_len n count
  all : n + count ≡ last

made_keep : (last : ℕ) → Simple (MakeUpTo last) (λ shares. 0 < length shares)
made_keep last = record {
  split = λ n from size lines more.
      let further : n + 2 ≡ n + 1 + 1 = omega arith in
      let is = ap (λ ns. n ∷ (n + 1) ∷ ns) (more.is ∙ ap (λ k. range_with_len k more.count) further) in
      record { count = suc (suc more.count); is = is; all = omega (arith, more.all) };
  pass =
      λ n from exchanger lines more.
      record { count = suc more.count; is = ap (λ ns. n ∷ ns) more.is; all = omega (arith, more.all) };
  mix =
      λ n first second lines more.
      record { count = suc more.count; is = ap (λ ns. n ∷ ns) more.is; all = omega (arith, more.all) };
  end = λ n from lines more. record { count = more.count; is = more.is; all = more.all };
  none = λ some n lines more. absurd (omega (arith, some));
}

pub made-courses : (next stream : ℕ) (courses : List Course) → All AreStages courses
    → flat_map makes (courses_lines next stream courses) ≡ range_with_len next (all_branches courses)
made-courses next stream courses used =
    let last = next + all_branches courses in
    let made = walk_simply (MakeUpTo last) (λ shares. 0 < length shares) (made_keep last) next stream courses used
    (record { count = 0; is = refl; all = omega arith }) in
    let many : made.count ≡ all_branches courses = omega (arith, made.all) in
    made.is ∙ ap (range_with_len next) many

pub made-declared : (exchangers : List Exchanger) → flat_map makes (map declared_line exchangers) ≡ []
made-declared [] = refl
made-declared (e ∷ exchangers) = made-declared exchangers

pub length-made_branches : (first stream : ℕ) (courses : List Course)
    → length (made_branches first stream courses) ≡ all_branches courses
length-made_branches first stream [] = refl
length-made_branches first stream (course ∷ courses) =
    let k = course_branches course in
    let both = length-append (numbered first stream k) (made_branches (first + k) (stream + 1) courses) in
    omega (arith, both, length-numbered first stream k, length-made_branches (first + k) (stream + 1) courses)

-- ---- made before use

-- where there are m branches, each line uses some of those and of what lines before it make
abbrev pub AreKnown : ℕ → List Line → Type 0
AreKnown m [] = Unit {0}
AreKnown m (l ∷ lines) = All (λ b. b < m) (uses l) × AreKnown (m + length (makes l)) lines

pub known_at : (m : ℕ) (lines : List Line) (index : ℕ) (l : Line) → AreKnown m lines → slice_get lines index ≡ Some l
    → All (λ b. b < m + length (flat_map makes (take index lines))) (uses l)
known_at m [] index l known at = cc at
known_at m (a ∷ lines) zero l known at =
    let same : a ≡ l = cc at in
    let used = subst (λ x. All (λ b. b < m) (uses x)) same known.0 in
    λ j d within. omega (arith, used j d within)
known_at m (a ∷ lines) (suc index) l known at =
    let long = length-append (makes a) (flat_map makes (take index lines)) in
    λ j d within. omega (arith, known_at (m + length (makes a)) lines index l known.1 at j d within, long)

one_known : (m b : ℕ) → b < m → All (λ k. k < m) (b ∷ [])
one_known m b less = All-cons (λ k. k < m) b [] less (All-nil (λ k. k < m))

-- a line that makes nothing
nothing_made : (m : ℕ) (lines : List Line) → AreKnown m lines → AreKnown (m + 0) lines
nothing_made m lines known =
    let none : m ≡ m + 0 = omega arith in
    subst (λ k. AreKnown k lines) none known

pub known_keep : KeepAll (λ n w lines. AreKnown n lines) (λ stream n b. b < n) (λ stream s. Unit {0}) (λ b. 0)
    (λ stream s. 0) (λ shares. 0 < length shares)
known_keep = record {
  keeps = λ stream. record {
    split = λ n from w all left s lines share early one two sum sums more. (one_known n from early, more);
    pass = λ n from w all left s lines share early one sum sums more. (one_known n from early, more);
    mix =
        λ n first second w all left lines early other one sum sums more.
        (All-cons (λ k. k < n) first (second ∷ []) early (one_known n second other), more);
    none = λ some n w all lines more. absurd (omega (arith, some));
  };
  end = λ stream n from w all lines early sum more. (one_known n from early, nothing_made n lines more);
}

pub early_follow : (next stream : ℕ) (courses : List Course) → stream + length courses ≤ next
    → Follow (λ k n b. b < n) next stream courses
early_follow next stream [] own = tt
early_follow next stream (course ∷ courses) own =
    let rest = early_follow (next + course_branches course) (stream + 1) courses (omega (arith, own)) in
    (λ n low high. omega (arith, own, low), λ k low n more high. omega (arith, more), rest)

pub known-declared : (m : ℕ) (exchangers : List Exchanger) (lines : List Line) → AreKnown m lines
    → AreKnown m (map declared_line exchangers ++ lines)
known-declared m [] lines known = known
known-declared m (e ∷ exchangers) lines known =
    (All-nil (λ b. b < m), known-declared (m + 0) exchangers lines (nothing_made m lines known))
