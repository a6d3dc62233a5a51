-- The digits of a number text.
use Rattle.std.proofs.Common.{Bool, List, None, Some, ap, arith, false, get_or, length, negsuc, option_map, pos, refl, suc, take, true, unsigned_abs, ℕ, ℤ, ◌-◌}
use Rattle.std.proofs.Common.{◌<◌, ◌==◌, ◌^◌, ◌∙◌, ◌≡◌, ◌≤◌}
use Rattle.std.proofs.Math.Nat.{pow-le-pow_right}
use Rattle.std.specs.Fmt.{signed_decimal}
use Rattle.stream_case.proofs.Words.{AllDigits, IsOfDigits, all_ascii_digits, decimal, digit_value, digits_value, integer_in, is_ascii_digit, length-take}
use Rattle.stream_case.proofs.Words.{nat_tests, natural_in, negative}
use Rattle.std.proofs.lemmas.Fmt.{decimal_is_IsNumeral_wide, length-decimal-le_wide}
use Rattle.std.proofs.lemmas.Str.Parse.{IsNumeralModel, digit_at, digits_value_short, numerals_by_value, tells_all_ascii_digits}

own : IsNumeralModel (λ ds. all_ascii_digits ds ≡ true) (digits_value 10)
own = numerals_by_value _ tells_all_ascii_digits

-- so many digits spell a number below that power of ten
pub small : (most : ℕ) (text : List ℕ) (i : ℕ) → i ≤ most → AllDigits 10 (take i text)
    → digits_value 10 (take i text) < 10 ^ most
small most text i short digits =
    let n = length-take i text in
    digits_value_short own (take i text) most (own.from (take i text) digits) (omega arith)

-- a byte that is a digit
pub digit : (c : ℕ) → is_ascii_digit c ≡ true → (digit_value c ≡ c - 48) × (c - 48 < 10)
digit c h = grind (arith, nat_tests)

-- the digits are all of the text
pub all_read : (most : ℕ) (text : List ℕ) → 0 < length text → length text ≤ most → AllDigits 10 text
    → natural_in most text ≡ Some (digits_value 10 text)
unfolding natural_in
all_read most text some short digits = let e = own.from text digits in grind (arith, nat_tests)

-- a number in decimal is read as itself
pub natural_read : (most n : ℕ) → 0 < most → n < 10 ^ most → n < 10 ^ 64 → natural_in most (decimal n) ≡ Some n
natural_read most n some small bound = let numeral = decimal_is_IsNumeral_wide n bound in
    all_read most (decimal n) numeral.0.0 (length-decimal-le_wide most n some small bound) numeral.0.1
    ∙ ap Some numeral.1

-- a number of so many digits is below that power of ten
pub fewer_digits : (few most : ℕ) → few ≤ most → 10 ^ few ≤ 10 ^ most
fewer_digits few most less = pow-le-pow_right (omega arith) less

-- and no printed one is longer than a numeral may be
pub IsOfDigits-short : (most : ℕ) (z : ℤ) → IsOfDigits most z → unsigned_abs z < 10 ^ 64
IsOfDigits-short most z of = omega (arith, of.short, fewer_digits most 38 of.readable)

-- a whole number is read as it is printed
pub integer_read : (most : ℕ) (z : ℤ) → IsOfDigits most z → integer_in most (signed_decimal z) ≡ Some z
unfolding integer_in
integer_read most (pos n) of =
    let bound : n < 10 ^ 64 = omega (arith, IsOfDigits-short most (pos n) of) in
    let numeral = decimal_is_IsNumeral_wide n bound in
    let digit = digit_at (decimal n) 0 numeral.0.1 numeral.0.0 in
    let plain : (get_or (decimal n) 0 0 == 45) ≡ false = grind (arith, nat_tests, digit) in
    rw plain (ap (option_map pos) (natural_read most n of.some (omega (arith, of.short)) bound))
integer_read most (negsuc n) of =
    let bound : suc n < 10 ^ 64 = omega (arith, IsOfDigits-short most (negsuc n) of) in
    ap (option_map negative) (natural_read most (suc n) of.some (omega (arith, of.short)) bound)

-- a text of another length, or with a byte that is no digit, spells no number
pub too_long : (most : ℕ) (text : List ℕ) → most < length text → natural_in most text ≡ None
unfolding natural_in
too_long most text long = grind (arith, nat_tests)

pub empty : (most : ℕ) (text : List ℕ) → length text ≡ 0 → natural_in most text ≡ None
unfolding natural_in
empty most text none = grind (arith, nat_tests)

not_all : (text : List ℕ) (i : ℕ) → i < length text → is_ascii_digit (get_or text i 0) ≡ false → (b : Bool)
    → all_ascii_digits text ≡ b → b ≡ false
not_all text i within other false e = refl
not_all text i within other true e =
    let r = digit_at text i (own.to text e) within in
    grind (arith, nat_tests)

pub no_digit : (most : ℕ) (text : List ℕ) (i : ℕ) → i < length text
    → is_ascii_digit (get_or text i 0) ≡ false → natural_in most text ≡ None
unfolding natural_in
no_digit most text i within other =
    let e : all_ascii_digits text ≡ false = not_all text i within other (all_ascii_digits text) refl in
    grind (arith, nat_tests)
