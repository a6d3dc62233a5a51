-- Fraction texts: an optional `-`, a number, and optionally `/` and a number. A number has 1 to MOST_DIGITS digits.
use Rattle.std.specs.Prelude.{ℕ, ℤ, Bool, List, Option, Some, None, unwrap_or, ◌==◌, if◌then◌else◌}
use Rattle.std.specs.List.{after_first, before_first, list_any}
use Rattle.stream_case.specs.Digits.{integer_in, natural_in}
use Rattle.fractions.specs.Rationals.{Rational, bounded_ratio, rational_zero}
use Rattle.network_text.specs.declared.limits.TheConstants.{MOST_DIGITS}

-- `/`
abbrev pub is_slash : ℕ → Bool
is_slash b = b == 47

-- the denominator, behind the first `/`; it is 1 where there is none
unfoldable pub denominator_in : List ℕ → Option ℕ
denominator_in text = if list_any is_slash text then natural_in MOST_DIGITS (after_first is_slash text) else Some 1

abbrev pub ratio_of : Option ℤ → Option ℕ → Option Rational
ratio_of (Some n) (Some d) = bounded_ratio n d
ratio_of (Some n) None = None
ratio_of None d = None

-- the fraction that a text spells, if it is a fraction text of a fraction
unfoldable pub fraction_in : List ℕ → Option Rational
fraction_in text = ratio_of (integer_in MOST_DIGITS (before_first is_slash text)) (denominator_in text)

-- the same, or 0 where there is none
unfoldable pub fraction : List ℕ → Rational
fraction text = unwrap_or (fraction_in text) rational_zero
