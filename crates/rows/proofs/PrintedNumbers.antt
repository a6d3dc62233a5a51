-- Numbers as they are printed.
use Rattle.rows.proofs.Words.{IsBetween, IsContribution, IsFlowRate, IsHeat, IsLoad, IsPrice, IsTemperature, IsValidStream, MOST_DIGITS, Row, Stream}
use Rattle.rows.proofs.Words.{IsOfDigits, cp-between, field, integer_in, integer_read, ints, is_number, is_number_or_empty, length-decimal-le, nat_tests}
use Rattle.rows.proofs.Words.{natural_in, number, number_in, optional_field, optional_number, signed_decimal}
use Rattle.std.proofs.Common.{IfSome, List, None, Option, Some, [], arith, false, length, neg_ℤ, negsuc, pos, refl, suc, true, ℕ, ℤ}
use Rattle.std.proofs.Common.{◌+◌, ◌-◌, ◌<◌, ◌==◌, ◌^◌, ◌∷◌, ◌≡◌, ◌≤◌}

-- numbers of a number text
abbrev pub IsPrintable : ℤ → Type 0
IsPrintable z = IsBetween (neg_ℤ (pos (10 ^ MOST_DIGITS - 1))) (pos (10 ^ MOST_DIGITS - 1)) z

-- each number of a case is one
pub temperature : (z : ℤ) → IsTemperature z → IsPrintable z
temperature z range = record { from = omega (arith, ints, range.from); upto = omega (arith, ints, range.upto) }

pub contribution : (z : ℤ) → IsContribution z → IsPrintable z
contribution z range = record { from = omega (arith, ints, range.from); upto = omega (arith, ints, range.upto) }

pub flow_rate : (z : ℤ) → IsFlowRate z → IsPrintable z
flow_rate z range = record { from = omega (arith, ints, range.from); upto = omega (arith, ints, range.upto) }

-- that of a stream, which is 0 where it is latent
pub stream_flow_rate : (s : Stream) → IsValidStream s → IsPrintable s.cp
stream_flow_rate s valid =
    let range = cp-between s valid in
    record { from = omega (arith, ints, range.from); upto = omega (arith, ints, range.upto) }

pub load : (z : ℤ) → IsLoad z → IsPrintable z
load z range = record { from = omega (arith, ints, range.from); upto = omega (arith, ints, range.upto) }

pub heat : (z : ℤ) → IsHeat z → IsPrintable z
heat z range = record { from = omega (arith, ints, range.from); upto = omega (arith, ints, range.upto) }

pub price : (z : ℤ) → IsPrice z → IsPrintable z
price z range = record { from = omega (arith, ints, range.from); upto = omega (arith, ints, range.upto) }

pub number_short : (z : ℤ) → IsPrintable z → length (signed_decimal z) ≤ MOST_DIGITS + 1
number_short (pos n) small = let least : n < 10 ^ MOST_DIGITS = omega (arith, ints, small.upto) in
    omega (arith, length-decimal-le MOST_DIGITS n (omega arith) least (omega (arith, least)))
number_short (negsuc n) small =
    let least : suc n < 10 ^ MOST_DIGITS = omega (arith, ints, small.from) in
    omega (arith, length-decimal-le MOST_DIGITS (suc n) (omega arith) least (omega (arith, least)))

of_digits : (z : ℤ) → IsPrintable z → IsOfDigits MOST_DIGITS z
of_digits (pos n) small =
    record { some = omega arith; readable = omega arith; short = omega (arith, ints, small.upto) }
of_digits (negsuc n) small =
    record { some = omega arith; readable = omega arith; short = omega (arith, ints, small.from) }

pub number_read : (z : ℤ) → IsPrintable z → number_in (signed_decimal z) ≡ Some z
number_read z small = integer_read MOST_DIGITS z (of_digits z small)

number_long : (text : List ℕ) (z : ℤ) → number_in text ≡ Some z → (length text == 0) ≡ false
unfolding integer_in natural_in
number_long [] z read = cc read
number_long (b ∷ bs) z read = grind (arith, nat_tests)

-- a number that may be left out is read as it is printed
pub optional_read : (row : Row) (index : ℕ) (o : Option ℤ) → IfSome o IsPrintable → field row index ≡ optional_field o
    → (is_number_or_empty row index ≡ true) × (optional_number row index ≡ o)
unfolding is_number_or_empty is_number optional_number number
optional_read row index None small printed = rw printed (refl, refl)
optional_read row index (Some z) small printed =
    rw (printed, number_long (signed_decimal z) z (number_read z small), number_read z small) (refl, refl)
