-- Numbers in digits, as texts have them.
use Rattle.std.specs.Prelude.{ℕ, ◌<◌, ◌≤◌, ◌^◌, ℤ, pos, neg_ℤ, unsigned_abs, Bool, List, length, drop, Option, Some, None, option_map, nat_le, ◌&&◌, ◌==◌, if◌then◌else◌, slice_index}
use Rattle.std.specs.Str.{all_ascii_digits}
use Rattle.std.specs.Str.Parse.{digits_value}

-- from 1 digit up to so many; zeros may lead
abbrev pub is_digits : ℕ → List ℕ → Bool
is_digits most text = nat_le 1 (length text) && nat_le (length text) most && all_ascii_digits text

-- the number that they spell
unfoldable pub natural_in : ℕ → List ℕ → Option ℕ
natural_in most text = if is_digits most text then Some (digits_value 10 text) else None

abbrev pub negative : ℕ → ℤ
negative n = neg_ℤ (pos n)

-- the whole number of an optional `-` (45), and from 1 digit up to so many
unfoldable pub integer_in : ℕ → List ℕ → Option ℤ
integer_in most text =
    if slice_index text 0 == 45
    then option_map negative (natural_in most (drop 1 text))
    else option_map pos (natural_in most text)

-- a whole number that so many digits can spell; the reader takes no more than 38
pub record IsOfDigits (most : ℕ) (z : ℤ) : Type 0 where
  pub some : 0 < most
  pub readable : most ≤ 38
  pub short : unsigned_abs z < 10 ^ most
