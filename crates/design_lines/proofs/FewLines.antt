-- A drawn network has few lines: three for each share at most, one for each stream, and the declarations.
use Rattle.design_lines.proofs.Words.{Course, Share, behind_splits, course_branches, course_lines, courses_lines, mixes, passes, rest_branch, share_branches}
use Rattle.design_lines.proofs.Words.{splits, stage_end, stage_lines, sum_by, sum_by-cons}
use Rattle.std.proofs.Common.{List, [], arith, length, length-append, suc, zero, ℕ, ◌*◌, ◌++◌, ◌+◌, ◌-◌, ◌∷◌, ◌≤◌}

few-splits : (next from : ℕ) (shares : List Share) → length (splits next from shares) ≤ length shares
few-splits next from [] = omega arith
few-splits next from (s ∷ []) = omega arith
few-splits next from (s ∷ t ∷ shares) = omega (arith, few-splits (next + 2) (next + 1) (t ∷ shares))

few-passes : (to : ℕ) (branches : List ℕ) (shares : List Share) → length (passes to branches shares) ≤ length shares
few-passes to [] shares = omega arith
few-passes to (b ∷ branches) [] = omega arith
few-passes to (b ∷ branches) (s ∷ shares) = omega (arith, few-passes (to + 1) branches shares)

few-mixes : (n to first second : ℕ) → length (mixes n to first second) ≤ n
few-mixes zero to first second = omega arith
few-mixes (suc n) to first second = omega (arith, few-mixes n (to + 1) to (second + 1))

few-stage : (next from : ℕ) (shares : List Share) → length (stage_lines next from shares) ≤ 3 * length shares
unfolding stage_lines
few-stage next from shares =
    let n = length shares in
    let behind = behind_splits next shares in
    let divided = share_branches next (rest_branch next from shares) shares in
    let ps = passes behind divided shares in
    let ms = mixes (n - 1) (behind + n) behind (behind + 1) in
    let mixed = few-mixes (n - 1) (behind + n) behind (behind + 1) in
    omega (
      arith,
      length-append (splits next from shares) (ps ++ ms),
      length-append ps ms,
      few-splits next from shares,
      few-passes behind divided shares,
      mixed,
    )

few-course : (next from : ℕ) (course : Course)
    → length (course_lines next from course) ≤ 3 * sum_by (λ ss. length ss) course + 1
few-course next from [] = omega arith
few-course next from (shares ∷ stages) =
    let last = stage_end next shares in
    let later = course_lines (last + 1) last stages in
    let sum = sum_by-cons (λ (ss : List Share). length ss) shares stages in
    omega (
      arith,
      length-append (stage_lines next from shares) later,
      few-stage next from shares,
      few-course (last + 1) last stages,
      sum,
    )

-- the lines of courses, by their shares together
pub few-courses : (next stream : ℕ) (courses : List Course)
    → length (courses_lines next stream courses) ≤ 3 * sum_by (λ course.
    sum_by (λ ss. length ss) course) courses + length courses
few-courses next stream [] = omega arith
few-courses next stream (course ∷ courses) =
    let k = course_branches course in
    let later = courses_lines (next + k) (stream + 1) courses in
    let sum = sum_by-cons (λ (c : Course). sum_by (λ ss. length ss) c) course courses in
    omega (
      arith,
      length-append (course_lines next stream course) later,
      few-course next stream course,
      few-courses (next + k) (stream + 1) courses,
      sum,
    )
