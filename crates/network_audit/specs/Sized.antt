-- Numbers over a denominator, of a size up to some bound, so that all steps of an audit are within the limits of a
-- fraction.
use Rattle.std.specs.Prelude.{◌≡◌, ◌+◌, ◌*◌, ◌^◌, ◌<◌, ◌≤◌, ◌+ℤ◌, ℕ, ℤ, All, List, [], ◌∷◌, flat_map, length, unsigned_abs}
use Rattle.stream_case.specs.declared.limits.TheConstants.{MOST_CONTRIBUTION}
use Rattle.fractions.specs.Rationals.{Rational, ratio, rational_sum, whole}

-- the limits of a fraction
abbrev pub most_den : ℕ
most_den = 2 ^ 48

abbrev pub most_num : ℕ
most_num = 2 ^ 76

-- a is a whole number over d, from -m to m
pub record IsSized (d m : ℕ) (a : Rational) : Type 0 where
  pub num : ℤ
  pub is : a ≡ ratio num d
  pub small : unsigned_abs num ≤ m * d

-- the greatest approach
abbrev pub most_approach : ℕ
most_approach = unsigned_abs (MOST_CONTRIBUTION +ℤ MOST_CONTRIBUTION)

-- a size up to m over d and a state up to n over e are small enough together
pub record AreSmall (d m e n : ℕ) : Type 0 where
  pub size_den : 0 < d
  pub state_den : 0 < e
  pub dens : d * e ≤ most_den
  pub size : m * d ≤ most_num
  pub state : (n + n + most_approach) * e ≤ most_num
  pub heat : m * n * (d * e) ≤ most_num

-- ---- groups

-- numbers up to m over a denominator of at most `den`, whose sum is whole
pub record IsWholeGroup (den m : ℕ) (numbers : List Rational) : Type 0 where
  pub over : ℕ
  pub some : 0 < over
  pub upto : over ≤ den
  pub each : All (IsSized over m) numbers
  pub sum : ℤ
  pub is : rational_sum numbers ≡ whole sum

-- how many numbers groups have together
abbrev pub count_of : List (List Rational) → ℕ
count_of [] = 0
count_of (group ∷ groups) = length group + count_of groups

-- one behind the other
abbrev pub numbers_of : List (List Rational) → List Rational
numbers_of groups = flat_map (λ group. group) groups
