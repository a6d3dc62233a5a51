-- Printed whole numbers are plain fields.
use Rattle.statements.proofs.Words.{All-cons, All-weaker, IsPlainField, IsVisible, decimal_is_IsNumeral_wide, digit_at, get_or_default, signed_decimal}
use Rattle.std.proofs.Common.{All, List, arith, decimal, length, negsuc, pos, subst, suc, unsigned_abs, ℕ, ℤ, ◌<◌, ◌^◌, ◌≢◌, ◌≤◌}

-- a byte of a number without a sign
abbrev IsDigit : ℕ → Type 0
IsDigit b = (48 ≤ b) × (b < 58)

decimal_digits : (n : ℕ) → n < 10 ^ 64 → All IsDigit (decimal n)
decimal_digits n small k d within =
    let numeral = decimal_is_IsNumeral_wide n small in
    let digit = digit_at (decimal n) k numeral.0.1 within in
    subst IsDigit (get_or_default (decimal n) k 0 d within) (digit.0, omega (arith, digit))

pub decimal_some : (n : ℕ) → n < 10 ^ 64 → 0 < length (decimal n)
decimal_some n small = (decimal_is_IsNumeral_wide n small).0.0

-- a digit or the sign, and no `/` (47), which divides the two numbers of a fraction
abbrev pub IsNumberByte : ℕ → Type 0
IsNumberByte b = (45 ≤ b) × (b ≢ 47)

pub decimal_bytes : (n : ℕ) → n < 10 ^ 64 → All IsNumberByte (decimal n)
decimal_bytes n small =
    All-weaker IsDigit IsNumberByte (λ b digit. (omega (arith, digit), λ e. omega (arith, e, digit))) (decimal n) (decimal_digits n small)

sign_byte : IsNumberByte 45
sign_byte = (omega arith, λ e. omega (arith, e))

pub signed_bytes : (z : ℤ) → unsigned_abs z < 10 ^ 64 → All IsNumberByte (signed_decimal z)
signed_bytes (pos n) short = decimal_bytes n (omega (arith, short))
signed_bytes (negsuc n) short =
    All-cons IsNumberByte 45 (decimal (suc n)) sign_byte (decimal_bytes (suc n) (omega (arith, short)))

pub signed_some : (z : ℤ) → unsigned_abs z < 10 ^ 64 → 0 < length (signed_decimal z)
signed_some (pos n) short = decimal_some n (omega (arith, short))
signed_some (negsuc n) short = omega arith

pub bytes_visible : (text : List ℕ) → All IsNumberByte text → All IsVisible text
bytes_visible text bytes = All-weaker IsNumberByte IsVisible (λ b byte. omega (arith, byte.0)) text bytes

pub number_plain : (z : ℤ) → unsigned_abs z < 10 ^ 64 → IsPlainField (signed_decimal z)
number_plain z short =
    record { some = signed_some z short; visible = bytes_visible (signed_decimal z) (signed_bytes z short) }
