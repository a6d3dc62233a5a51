-- Each value has one lowest form: rationals of one value are one.
use Rattle.std.specs.Prelude.{◌≡◌, ℕ, zero, suc, ◌*◌, ◌/◌, ◌<◌, ◌≤◌, Bool, ℤ, pos, ◌*ℤ◌, unsigned_abs, int_lt}
use Rattle.std.proofs.Common.{◌∙◌, sym, ap, arith}
use Rattle.std.proofs.Math.Nat.{div-le_self}
use Rattle.std.proofs.Math.Bridge.{le_prop}
use Rattle.std.proofs.lemmas.Int.{unsigned_abs-mul}
use Rattle.std.specs.Coded.{Coded, Coded-set, code_by, coded×, coded_ℕ, coded_ℤ}
use mathlib.Core.HLevel.{is_prop→PathP}
use Rattle.sums.proofs.ProductLemmas.{*ℤ_cancel_right}
use Rattle.fractions.specs.Integers.{pos_above, signed, signed-sign, signed-*ℤ, unsigned_abs-signed}
use Rattle.fractions.specs.Lowest.{IsLowest, gcd, gcd_is, divided, one_lowest}
use Rattle.fractions.specs.Rationals.{Rational, SameValue, lowest_form, ratio, suc-positive}

IsLowest-prop : (a b : ℕ) (x y : IsLowest a b) → x ≡ y
IsLowest-prop a b = hlevel (Coded-set coded_ℕ)

-- two rationals with the same fields are one
pub same_from_fields : (a b : Rational) → a.num ≡ b.num → a.den ≡ b.den → a ≡ b
same_from_fields a b p q = λ i. record {
  num = p i;
  den = q i;
  positive = is_prop→PathP (λ j. 0 < q j) (λ j. le_prop) a.positive b.positive i;
  lowest = is_prop→PathP (λ j. IsLowest (unsigned_abs (p j)) (q j)) (λ j. IsLowest-prop _ _) a.lowest b.lowest i;
}

-- the sizes of two numerals of one value
sizes : (n m : ℤ) (d e : ℕ) → SameValue n d m e → unsigned_abs n * e ≡ unsigned_abs m * d
sizes n m d e same = sym (unsigned_abs-mul n (pos e)) ∙ ap unsigned_abs same ∙ unsigned_abs-mul m (pos d)

-- two rationals whose cross products are equal are one
pub same_from_value : (a b : Rational) → SameValue a.num a.den b.num b.den → a ≡ b
same_from_value a b same =
    let form =
    one_lowest (unsigned_abs a.num) (unsigned_abs b.num) a.den b.den a.positive b.positive a.lowest b.lowest (sizes a.num b.num a.den b.den same) in
    same_from_fields a b (*ℤ_cancel_right (pos b.den) a.num b.num (pos_above b.den b.positive) (same ∙ ap (λ k. b.num *ℤ pos k) form.1)) form.1

-- what is divided by g keeps its value
pub same_divided : (negative : Bool) (a d g size den : ℕ) → a ≡ size * g → d ≡ den * g
    → SameValue (signed negative size) den (signed negative a) d
same_divided negative a d g size den ea ed =
    let cross : size * d ≡ a * den = rw (ea, ed) (omega arith) in
    signed-*ℤ negative size d ∙ ap (signed negative) cross ∙ sym (signed-*ℤ negative a den)

lowest_form-value : (n : ℤ) (d : ℕ) (some : 0 < d) → SameValue (lowest_form n d some).num (lowest_form n d some).den n d
unfolding lowest_form
lowest_form-value n d some =
    let g = gcd (unsigned_abs n) d in
    let parts = divided (unsigned_abs n) d g some (gcd_is (unsigned_abs n) d) in
    same_divided (int_lt n (pos 0)) (unsigned_abs n) d g _ _ parts.whole parts.under
    ∙ ap (λ z. z *ℤ pos (d / g)) (signed-sign n)

-- a ratio has the value of its two numbers
pub ratio-value : (n : ℤ) (d : ℕ) → 0 < d → SameValue (ratio n d).num (ratio n d).den n d
unfolding ratio
ratio-value n zero some = absurd (omega (arith, some))
ratio-value n (suc d) some = lowest_form-value n (suc d) (suc-positive d)

-- and no greater numbers
pub ratio-den_le : (n : ℤ) (d : ℕ) → 0 < d → (ratio n d).den ≤ d
unfolding ratio lowest_form
ratio-den_le n zero some = absurd (omega (arith, some))
ratio-den_le n (suc d) some = div-le_self (suc d) (gcd (unsigned_abs n) (suc d))

pub ratio-num_le : (n : ℤ) (d : ℕ) → unsigned_abs (ratio n d).num ≤ unsigned_abs n
unfolding ratio lowest_form
ratio-num_le n zero = omega arith
ratio-num_le n (suc d) =
    let g = gcd (unsigned_abs n) (suc d) in
    let size = unsigned_abs-signed (int_lt n (pos 0)) (unsigned_abs n / g) in
    omega (arith, size, div-le_self (unsigned_abs n) g)

pub ratio-self : (a : Rational) → ratio a.num a.den ≡ a
ratio-self a = same_from_value _ a (ratio-value a.num a.den a.positive)

-- numbers that are in lowest form already stay as they are
rational_of : (n : ℤ) (d : ℕ) → 0 < d → IsLowest (unsigned_abs n) d → Rational
rational_of n d some low = record { num = n; den = d; positive = some; lowest = low }

pub ratio-num : (n : ℤ) (d : ℕ) → 0 < d → IsLowest (unsigned_abs n) d → (ratio n d).num ≡ n
unfolding rational_of
ratio-num n d some low = ap (λ a. a.num) (ratio-self (rational_of n d some low))

pub ratio-den : (n : ℤ) (d : ℕ) → 0 < d → IsLowest (unsigned_abs n) d → (ratio n d).den ≡ d
unfolding rational_of
ratio-den n d some low = ap (λ a. a.den) (ratio-self (rational_of n d some low))

-- a rational is stored as the pair of its numbers
abbrev pub rational_code : Coded Rational
rational_code = code_by (ℤ × ℕ) (coded× coded_ℤ coded_ℕ) (λ a. (a.num, a.den)) (λ p. ratio p.0 p.1) ratio-self
