-- The numbers that a fraction keeps.
use Rattle.std.specs.Prelude.{◌≡◌, ℕ, ◌^◌, ◌<◌, ◌≤◌, ℤ, unsigned_abs}
use Rattle.fractions.specs.Lowest.{IsLowest}
use Rattle.fractions.specs.LowestForms.{ratio-den, ratio-num}
use Rattle.fractions.specs.Rationals.{ratio}

-- a numerator of this size and a denominator are in lowest terms
pub record IsInLowestTerms (size den : ℕ) : Type 0 where
  pub positive : 0 < den
  pub lowest : IsLowest size den

-- n/d is in lowest form and within the limits
pub record IsFraction (n : ℤ) (d : ℕ) : Type 0 where
  pub positive : 0 < d
  pub lowest : IsLowest (unsigned_abs n) d
  pub den_small : d ≤ 2 ^ 48
  pub num_small : unsigned_abs n ≤ 2 ^ 76

pub fields-num : (n : ℤ) (d : ℕ) → IsFraction n d → (ratio n d).num ≡ n
fields-num n d is = ratio-num n d is.positive is.lowest

pub fields-den : (n : ℤ) (d : ℕ) → IsFraction n d → (ratio n d).den ≡ d
fields-den n d is = ratio-den n d is.positive is.lowest

-- what the fields of a fraction are
pub ruleset fields = (fields-num, fields-den)
