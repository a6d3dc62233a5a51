-- Printed numbers are plain fields, and pass the checks of the grammar.
use Rattle.certify.proofs.Words.{IsPlainField, IsWithin, MOST_AMOUNT, MOST_COST, MOST_DIGITS, MOST_LEVEL, and_from, int_le-from, ints, is_within, number}
use Rattle.certify.proofs.Words.{integer_in, integer_read, number_plain, signed_decimal}
use Rattle.std.proofs.Common.{ap, arith, is_some, negsuc, pos, true, unsigned_abs, unwrap_or, ℤ, ◌<◌, ◌^◌, ◌≡◌}

-- a number whose text is read as itself, and is in range
pub record IsNumber (most z : ℤ) : Type 0 where
  pub plain : IsPlainField (signed_decimal z)
  pub some : is_some (integer_in MOST_DIGITS (signed_decimal z)) ≡ true
  pub value : number (signed_decimal z) ≡ z
  pub within : is_within most (number (signed_decimal z)) ≡ true

short : (z : ℤ) → IsWithin MOST_COST z → unsigned_abs z < 10 ^ 30
short (pos n) h =
    let from = h.from in
    let upto = h.upto in
    omega (arith, ints)
short (negsuc n) h =
    let from = h.from in
    let upto = h.upto in
    omega (arith, ints)

in_range : (most z n : ℤ) → n ≡ z → IsWithin most z → is_within most n ≡ true
in_range most z n is h = rw is (and_from _ _ (int_le-from _ z h.from) (int_le-from z most h.upto))

as_number : (most z : ℤ) → IsWithin most z → IsWithin MOST_COST z → IsNumber most z
unfolding number
as_number most z within wide =
    let small = short z wide in
    let smaller : unsigned_abs z < 10 ^ 64 = omega (arith, small) in
    let back = integer_read MOST_DIGITS z (record { some = omega arith; readable = omega arith; short = small }) in
    let value = ap (λ o. unwrap_or o (pos 0)) back in
    record { plain = number_plain z smaller; some = ap is_some back; value = value; within = in_range most z _ value within }

pub cost_number : (z : ℤ) → IsWithin MOST_COST z → IsNumber MOST_COST z
cost_number z h = as_number MOST_COST z h h

pub amount_number : (z : ℤ) → IsWithin MOST_AMOUNT z → IsNumber MOST_AMOUNT z
amount_number z h =
    let from = h.from in
    let upto = h.upto in
    as_number MOST_AMOUNT z h (omega (arith, ints))

pub level_number : (z : ℤ) → IsWithin MOST_LEVEL z → IsNumber MOST_LEVEL z
level_number z h =
    let from = h.from in
    let upto = h.upto in
    as_number MOST_LEVEL z h (omega (arith, ints))
