-- Each branch is used once: what lines use and leave open is what was open before them and what they make.
use Rattle.design_lines.proofs.Words.{AreStages, Course, Exchanger, Line, Share, courses_lines, declared_line, flat_map, flat_map-append, makes}
use Rattle.design_lines.proofs.Words.{nat_tests, range_with_len, sum_by, sum_by-le, uses}
use Rattle.std.proofs.Common.{All, AllPairs, Bool, List, [], ap, arith, cond, false, get_or, length, map, refl, suc, true, zero, ℕ, ◌++◌, ◌+◌, ◌<◌}
use Rattle.std.proofs.Common.{◌==◌, ◌∙◌, ◌∷◌, ◌≡◌, ◌≢◌, ◌≤◌}
use Rattle.design_lines.proofs.Walks.{KeepAll, follow_always, walk_courses, weight}

-- ---- how many times a number stands in a list

abbrev pub times : ℕ → List ℕ → ℕ
times b [] = 0
times b (x ∷ xs) = cond (b == x) 1 0 + times b xs

pub times-append : (b : ℕ) (xs ys : List ℕ) → times b (xs ++ ys) ≡ times b xs + times b ys
times-append b [] ys = omega arith
times-append b (x ∷ xs) ys = omega (arith, times-append b xs ys)

pub times-flat_map : (b : ℕ) (f : Line → List ℕ) (xs ys : List Line)
    → times b (flat_map f (xs ++ ys)) ≡ times b (flat_map f xs) + times b (flat_map f ys)
times-flat_map b f xs ys = ap (times b) (flat_map-append f xs ys) ∙ times-append b (flat_map f xs) (flat_map f ys)

same_number : (a b : ℕ) → a ≡ b → (a == b) ≡ true
same_number a b same = grind (arith, nat_tests, same)

other_number : (a b : ℕ) → a < b → (a == b) ≡ false
other_number a b less = grind (arith, nat_tests, less)

never-range : (b a n : ℕ) → b < a → times b (range_with_len a n) ≡ 0
never-range b a zero less = refl
never-range b a (suc n) less =
    omega (arith, ap {B = ℕ} (λ t. cond t 1 0) (other_number b a less), never-range b (a + 1) n (omega (arith, less)))

pub once-range : (b a n : ℕ) → times b (range_with_len a n) ≤ 1
once-range b a zero = omega arith
once-range b a (suc n) = by (b == a) refl (once-range b (a + 1) n)
  where
    by : (t : Bool) → (b == a) ≡ t → times b (range_with_len (a + 1) n) ≤ 1 → times b (range_with_len a (suc n)) ≤ 1
    by true is rest =
        let same : b ≡ a = grind (arith, nat_tests, is) in
        omega (arith, ap {B = ℕ} (λ t. cond t 1 0) is, never-range b (a + 1) n (omega (arith, same)))
    by false is rest = let no = ap {B = ℕ} (λ t. cond t 1 0) is in omega (arith, no, rest)

some_times : (b : ℕ) (xs : List ℕ) (j d : ℕ) → j < length xs → b ≡ get_or xs j d → 0 < times b xs
some_times b [] j d within same = absurd (omega (arith, within))
some_times b (x ∷ xs) zero d within same =
    let one = ap {B = ℕ} (λ t. cond t 1 0) (same_number b x same) in
    omega (arith, one)
some_times b (x ∷ xs) (suc j) d within same = omega (arith, some_times b xs j d (omega (arith, within)) same)

-- numbers that stand in a list once at most differ
pub differ : (xs : List ℕ) → ((b : ℕ) → times b xs ≤ 1) → AllPairs (λ a b. a ≢ b) xs
differ [] once i j d before within = absurd (omega (arith, within))
differ (x ∷ xs) once zero zero d before within = absurd (omega (arith, before))
differ (x ∷ xs) once zero (suc j) d before within =
    λ same. let one = ap {B = ℕ} (λ t. cond t 1 0) (same_number x x refl) in
    absurd (omega (arith, once x, one, some_times x xs j d (omega (arith, within)) same))
differ (x ∷ xs) once (suc i) zero d before within = absurd (omega (arith, before))
differ (x ∷ xs) once (suc i) (suc j) d before within =
    differ xs (λ b. omega (arith, once b)) i j d (omega (arith, before)) (omega (arith, within))

-- ---- courses

-- shares that weigh nothing
pub no_weight : (course : Course) → sum_by (λ shares. sum_by (λ (s : Share). 0) shares) course ≡ 0
no_weight course = omega (
  arith,
  sum_by-le (λ shares. sum_by (λ (s : Share). 0) shares) 0 course
      (λ k d inside. omega (arith, sum_by-le (λ (s : Share). 0) 0 (get_or course k d) (λ i e within. omega arith))),
)

-- a branch is used as often as it is open before the lines and made by them
module _ (b : ℕ) where
  abbrev is_it : ℕ → ℕ
  is_it x = cond (b == x) 1 0

  abbrev IsUsed : ℕ → ℕ → List Line → Type 0
  IsUsed n w lines = times b (flat_map uses lines) ≡ w + times b (flat_map makes lines)

  used_keep : KeepAll IsUsed (λ stream n x. Unit {0}) (λ stream s. Unit {0}) is_it (λ stream s. 0)
      (λ shares. 0 < length shares)
  used_keep = record {
    keeps = λ stream. record {
      split =
          λ n from w all left s lines share of_from of_first of_second sum sums more. omega (arith, sum, sums, more);
      pass = λ n from w all left s lines share of_from of_to sum sums more. omega (arith, sum, sums, more);
      mix = λ n first second w all left lines of_first of_second of_to sum sums more. omega (arith, sum, sums, more);
      none = λ some n w all lines more. absurd (omega (arith, some));
    };
    end = λ stream n from w all lines of_from sum more. omega (arith, sum, more);
  }

  abbrev still_open : ℕ → List Course → ℕ
  still_open stream courses =
      weight IsUsed (λ k n x. Unit {0}) (λ k s. Unit {0}) is_it (λ k s. 0) (λ shares. 0 < length shares) stream courses

  own-open : (stream : ℕ) (courses : List Course)
      → still_open stream courses ≡ times b (range_with_len stream (length courses))
  own-open stream [] = refl
  own-open stream (course ∷ courses) = omega (arith, no_weight course, own-open (stream + 1) courses)

  pub used-courses : (next stream : ℕ) (courses : List Course) → All AreStages courses
      → times b (flat_map uses (courses_lines next stream courses))
      ≡ times b (range_with_len stream (length courses)) + times b
      (flat_map makes (courses_lines next stream courses))
  used-courses next stream courses used =
      let follow = follow_always (λ k n x. Unit {0}) (λ k n x. tt) next stream courses in
      let walked = walk_courses IsUsed (λ k n x. Unit {0}) (λ k s. Unit {0}) is_it (λ k s. 0)
      (λ shares. 0 < length shares) used_keep next stream courses used (λ i c at k d within j e inside. tt) follow
      refl in
      omega (arith, walked, own-open stream courses)

pub used-declared : (exchangers : List Exchanger) → flat_map uses (map declared_line exchangers) ≡ []
used-declared [] = refl
used-declared (e ∷ exchangers) = used-declared exchangers
