-- Rationals of any size, in lowest form: the sums, products and order that bounded fractions answer.
use Rattle.std.specs.Prelude.{◌≡◌, ℕ, zero, suc, ◌*◌, ◌/◌, ◌^◌, ◌<◌, ◌≤◌, ℤ, pos, ◌+ℤ◌, ◌-ℤ◌, ◌*ℤ◌, ◌<ℤ◌, ◌≤ℤ◌, unsigned_abs, int_lt, Bool, ◌&&◌, nat_le, List, [], ◌∷◌, ◌++◌, Option, Some, None, IsSome, IfSome, ◌↔◌, if◌then◌else◌, ◌==◌}
use Rattle.std.specs.Fmt.{decimal, signed_decimal}
use Rattle.std.specs.Ordering.{int_cmp, int_eq, is_lt}
use Rattle.std.specs.declared.cmp.Ordering.{Ordering}
use Rattle.std.proofs.Common.{sym, subst, arith}
use Rattle.fractions.specs.Integers.{signed, unsigned_abs-signed}
use Rattle.fractions.specs.Lowest.{IsLowest, IsLowest-one, gcd, gcd_is, divided}

-- n/d and m/e have the same value: the cross products are equal
abbrev pub SameValue : ℤ → ℕ → ℤ → ℕ → Type 0
SameValue n d m e = n *ℤ pos e ≡ m *ℤ pos d

-- a rational: a whole number over a number above 0, with no common divisor above 1, so that zero is 0/1
pub record Rational : Type 0 where
  pub num : ℤ
  pub den : ℕ
  pub positive : 0 < den
  pub lowest : IsLowest (unsigned_abs num) den

pub suc-positive : (d : ℕ) → 0 < suc d
suc-positive d = omega arith

-- ---- making one

-- the lowest form of n/d: both divided by their greatest common divisor
unfoldable pub lowest_form : (n : ℤ) (d : ℕ) → 0 < d → Rational
lowest_form n d some =
    let g = gcd (unsigned_abs n) d in
    let parts = divided (unsigned_abs n) d g some (gcd_is (unsigned_abs n) d) in
    record {
      num = signed (int_lt n (pos 0)) (unsigned_abs n / g);
      den = d / g;
      positive = parts.positive;
      lowest =
          subst (λ size. IsLowest size (d / g)) (sym (unsigned_abs-signed (int_lt n (pos 0)) (unsigned_abs n / g))) parts.lowest;
    }

-- a whole number
abbrev pub whole : ℤ → Rational
whole n = record { num = n; den = 1; positive = suc-positive 0; lowest = IsLowest-one (unsigned_abs n) }

abbrev pub rational_zero : Rational
rational_zero = whole (pos 0)

abbrev pub rational_one : Rational
rational_one = whole (pos 1)

-- the rational n/d; n/0, of which no rule speaks, is 0
unfoldable pub ratio : ℤ → ℕ → Rational
ratio n zero = rational_zero
ratio n (suc d) = lowest_form n (suc d) (suc-positive d)

-- ---- sums, differences, products and quotients

unfoldable pub plus : Rational → Rational → Rational
plus a b = ratio (a.num *ℤ pos b.den +ℤ b.num *ℤ pos a.den) (a.den * b.den)

unfoldable pub minus : Rational → Rational → Rational
minus a b = ratio (a.num *ℤ pos b.den -ℤ b.num *ℤ pos a.den) (a.den * b.den)

unfoldable pub times : Rational → Rational → Rational
times a b = ratio (a.num *ℤ b.num) (a.den * b.den)

-- one over a, which is not 0: turned over, with the sign on top
unfoldable pub reciprocal : Rational → Rational
reciprocal a = ratio (signed (int_lt a.num (pos 0)) a.den) (unsigned_abs a.num)

-- a over b, which is not 0
unfoldable pub over : Rational → Rational → Rational
over a b = times a (reciprocal b)

-- the sum of f over a list, and of a list itself
abbrev pub rational_sum_by : {X : Type 0} → (X → Rational) → List X → Rational
rational_sum_by f [] = rational_zero
rational_sum_by f (x ∷ xs) = plus (f x) (rational_sum_by f xs)

abbrev pub rational_sum : List Rational → Rational
rational_sum xs = rational_sum_by (λ a. a) xs

-- ---- order, by the cross products

pub record IsBelow (a b : Rational) : Type 0 where
  pub cross : (a.num *ℤ pos b.den) <ℤ (b.num *ℤ pos a.den)

pub record IsAtMost (a b : Rational) : Type 0 where
  pub cross : (a.num *ℤ pos b.den) ≤ℤ (b.num *ℤ pos a.den)

unfoldable pub rational_cmp : Rational → Rational → Ordering
rational_cmp a b = int_cmp (a.num *ℤ pos b.den) (b.num *ℤ pos a.den)

-- the test whether a is below b
abbrev pub is_below : Rational → Rational → Bool
is_below a b = is_lt (rational_cmp a b)

-- two are equal where both numbers are
abbrev pub rational_eq : Rational → Rational → Bool
rational_eq a b = int_eq a.num b.num && (a.den == b.den)

-- ---- bounded fractions

-- a denominator of at most 2^48, and a numerator from -2^76 to 2^76
pub record IsWithinLimits (a : Rational) : Type 0 where
  pub den : a.den ≤ 2 ^ 48
  pub num : unsigned_abs a.num ≤ 2 ^ 76

abbrev pub is_within_limits : Rational → Bool
is_within_limits a = nat_le a.den (2 ^ 48) && nat_le (unsigned_abs a.num) (2 ^ 76)

-- the fraction n/d: d is not 0, and the lowest form is within the limits
unfoldable pub bounded_ratio : ℤ → ℕ → Option Rational
bounded_ratio n zero = None
bounded_ratio n (suc d) = if is_within_limits (ratio n (suc d)) then Some (ratio n (suc d)) else None

-- the call gives a: a fraction of just this value, and none exactly where a is outside the limits
pub record Gives (result : Option Rational) (a : Rational) : Type 0 where
  pub fits : IsSome result ↔ IsWithinLimits a
  pub value : IfSome result (λ fraction. fraction ≡ a)

-- `n`, or `n/d` where d is not 1: 47 is `/`
abbrev pub fraction_text : Rational → List ℕ
fraction_text a = if a.den == 1 then signed_decimal a.num else signed_decimal a.num ++ 47 ∷ decimal a.den
