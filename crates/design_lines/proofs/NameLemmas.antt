-- The names that a design makes are names.
use Rattle.design_lines.proofs.Words.{All-cons, All-nil, AllDigits, IsDottedName, IsInRange, IsName, IsTrue, branch_name, decimal, decimal_injective}
use Rattle.design_lines.proofs.Words.{decimal_is_IsNumeral, exchanger_name, is_ascii_alphanumeric, is_name_byte, length-decimal-le, nat_tests, tells_digits}
use Rattle.std.proofs.Common.{All, List, [], arith, length, refl, ℕ, ◌+◌, ◌<◌, ◌^◌, ◌∷◌, ◌≡◌, ◌≤◌}

digit_alphanumeric : (c : ℕ) → IsInRange 48 57 c → IsTrue (is_ascii_alphanumeric c)
digit_alphanumeric c digit = grind (arith, nat_tests)

digit_name_byte : (c : ℕ) → IsInRange 48 57 c → IsTrue (is_name_byte c)
digit_name_byte c digit = grind (arith, nat_tests)

digits_name_bytes : (ds : List ℕ) → AllDigits 10 ds → All (λ x. IsTrue (is_name_byte x)) ds
digits_name_bytes [] digits = All-nil (λ x. IsTrue (is_name_byte x))
digits_name_bytes (d ∷ ds) digits =
    let parts = tells_digits.parts d ds digits in
    All-cons (λ x. IsTrue (is_name_byte x)) _ _ (digit_name_byte d parts.0) (digits_name_bytes ds parts.1)

digits_name : (ds : List ℕ) → AllDigits 10 ds → 0 < length ds → length ds ≤ 16 → IsName ds
digits_name [] digits some short = absurd (omega (arith, some))
digits_name (d ∷ ds) digits some short =
    let parts = tells_digits.parts d ds digits in
    (digit_alphanumeric d parts.0, digits_name_bytes ds parts.1, omega (arith, short))

short_decimal : (number : ℕ) → number < 2 ^ 33 → length (decimal (number + 1)) ≤ 10
short_decimal number small =
    length-decimal-le 10 (number + 1) (omega arith) (omega (arith, small)) (omega (arith, small))

pub IsName-exchanger_name : (number : ℕ) → number < 2 ^ 33 → IsName (exchanger_name number)
IsName-exchanger_name number small =
    let numeral = (decimal_is_IsNumeral (number + 1) (omega (arith, small))).0 in
    (refl, digits_name_bytes (decimal (number + 1)) numeral.1, omega (arith, short_decimal number small))

pub IsDottedName-branch_name : (number : ℕ) → number < 2 ^ 33 → IsDottedName (branch_name number)
IsDottedName-branch_name number small =
    let numeral = (decimal_is_IsNumeral (number + 1) (omega (arith, small))).0 in
    (refl, digits_name (decimal (number + 1)) numeral.1 numeral.0 (omega (arith, short_decimal number small)))

-- a number by its decimal digits
pub number_of_decimal : (m n : ℕ) → m < 2 ^ 33 → n < 2 ^ 33 → decimal (m + 1) ≡ decimal (n + 1) → m ≡ n
number_of_decimal m n small_m small_n same =
    omega (arith, decimal_injective (m + 1) (n + 1) (omega (arith, small_m)) (omega (arith, small_n)) same)
