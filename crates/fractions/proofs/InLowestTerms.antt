-- Lowest terms: products crosswise, reciprocals, and which are within the limits.
use Rattle.fractions.proofs.Ratios.{ratio-same, ratio-zero, times-ratio}
use Rattle.fractions.specs.Fields.{IsFraction, IsInLowestTerms}
use Rattle.fractions.proofs.Words.{IsGcd, IsLowest, IsWithinLimits, Rational, beq, crosswise, divided, mul-pos, nat_tests, ratio, ratio-den, ratio-num}
use Rattle.fractions.proofs.Words.{rational_zero, reciprocal, same_divided, signed, signed-*ℤ-signed, signed-sign, times, unsigned_abs-signed}
use Rattle.std.proofs.Common.{Bool, ap, arith, false, int_lt, not, pos, refl, suc, sym, true, unsigned_abs, zero, ℕ, ℤ, ◌*◌, ◌/◌, ◌<◌, ◌^◌, ◌∙◌, ◌≡◌, ◌≢◌, ◌≤◌}

signed-lowest : (negative : Bool) (size den : ℕ) → IsLowest size den
    → IsLowest (unsigned_abs (signed negative size)) den
signed-lowest negative size den low = rw (unsigned_abs-signed negative size) low

-- the numbers of a ratio in lowest terms
terms-num : (negative : Bool) (size den : ℕ) → IsInLowestTerms size den
    → (ratio (signed negative size) den).num ≡ signed negative size
terms-num negative size den is =
    ratio-num (signed negative size) den is.positive (signed-lowest negative size den is.lowest)

terms-size : (negative : Bool) (size den : ℕ) → IsInLowestTerms size den
    → unsigned_abs (ratio (signed negative size) den).num ≡ size
terms-size negative size den is = ap unsigned_abs (terms-num negative size den is) ∙ unsigned_abs-signed negative size

terms-den : (negative : Bool) (size den : ℕ) → IsInLowestTerms size den → (ratio (signed negative size) den).den ≡ den
terms-den negative size den is =
    ratio-den (signed negative size) den is.positive (signed-lowest negative size den is.lowest)

-- ---- the limits

pub terms-within : (negative : Bool) (size den : ℕ) (a : Rational) → IsInLowestTerms size den
    → ratio (signed negative size) den ≡ a → size ≤ 2 ^ 76
    → den ≤ 2 ^ 48 → IsWithinLimits a
terms-within negative size den a is same num_small den_small = rw (← same) (record {
  den = omega (arith, terms-den negative size den is);
  num = omega (arith, terms-size negative size den is);
})

pub terms-outside : (negative : Bool) (size den : ℕ) (a : Rational) → IsInLowestTerms size den
    → ratio (signed negative size) den ≡ a
    → (size ≤ 2 ^ 76 → den ≤ 2 ^ 48 → ⊥) → IsWithinLimits a → ⊥
terms-outside negative size den a is same beyond =
    rw (← same) (λ within. beyond (omega (arith, within.num, terms-size negative size den is)) (omega (arith, within.den, terms-den negative size den is)))

pub fields-terms : (negative : Bool) (size den : ℕ) → IsInLowestTerms size den → size ≤ 2 ^ 76 → den ≤ 2 ^ 48
    → IsFraction (signed negative size) den
fields-terms negative size den is num_small den_small = record {
  positive = is.positive;
  lowest = signed-lowest negative size den is.lowest;
  den_small = den_small;
  num_small = omega (arith, unsigned_abs-signed negative size);
}

-- ---- what the calls make

-- n/d, both divided by a greatest common divisor g
pub record IsReduced (n : ℤ) (d g : ℕ) : Type 0 where
  pub terms : IsInLowestTerms (unsigned_abs n / g) (d / g)
  pub same : ratio (signed (int_lt n (pos 0)) (unsigned_abs n / g)) (d / g) ≡ ratio n d

pub reduced_by : (n : ℤ) (d g : ℕ) → 0 < d → IsGcd (unsigned_abs n) d g → IsReduced n d g
reduced_by n d g some is =
    let negative = int_lt n (pos 0) in
    let parts = divided (unsigned_abs n) d g some is in
    record {
      terms = record { positive = parts.positive; lowest = parts.lowest };
      same =
          ratio-same _ _ (d / g) d parts.positive some (same_divided negative (unsigned_abs n) d g _ _ parts.whole parts.under)
          ∙ ap (λ z. ratio z d) (signed-sign n);
    }

-- a/b times c/d, with f and g divided out crosswise
pub record IsProduct (s t : Bool) (a b c d f g : ℕ) : Type 0 where
  pub terms : IsInLowestTerms (a / f * (c / g)) (b / g * (d / f))
  pub same : ratio (signed (not (beq s t)) (a / f * (c / g))) (b / g * (d / f))
      ≡ times (ratio (signed s a) b) (ratio (signed t c) d)

pub product_by : (s t : Bool) (a b c d f g : ℕ) → IsInLowestTerms a b → IsInLowestTerms c d → IsGcd a d f
    → IsGcd c b g → IsProduct s t a b c d f g
product_by s t a b c d f g one two isf isg =
    let parts = crosswise a b c d f g one.lowest two.lowest one.positive two.positive isf isg in
    record {
      terms = record { positive = parts.positive; lowest = parts.lowest };
      same = ratio-same _ _ _ (b * d) parts.positive (mul-pos one.positive two.positive)
          (same_divided (not (beq s t)) (a * c) (b * d) (f * g) _ _ parts.whole parts.under)
          ∙ ap (λ z. ratio z (b * d)) (sym (signed-*ℤ-signed s t a c))
          ∙ sym (times-ratio (signed s a) (signed t c) b d one.positive two.positive);
    }

-- one over a/b
pub record IsTurned (negative : Bool) (a b : ℕ) : Type 0 where
  pub terms : IsInLowestTerms b a
  pub same : ratio (signed negative b) a ≡ reciprocal (ratio (signed negative a) b)

sign-above : (negative : Bool) (a : ℕ) → 0 < a → int_lt (signed negative a) (pos 0) ≡ negative
sign-above negative zero some = absurd (omega (arith, some))
sign-above false (suc a) some = grind (arith, nat_tests)
sign-above true (suc a) some = refl

above_zero : (negative : Bool) (a b : ℕ) → ratio (signed negative a) b ≢ rational_zero → 0 < a
above_zero negative (suc a) b some = omega arith
above_zero true zero b some = absurd (some (ratio-zero b))
above_zero false zero b some = absurd (some (ratio-zero b))

pub turned_over : (negative : Bool) (a b : ℕ) → IsInLowestTerms a b
    → ratio (signed negative a) b ≢ rational_zero → IsTurned negative a b
unfolding reciprocal
turned_over negative a b is some =
    let above = above_zero negative a b some in
    let x = ratio (signed negative a) b in
    let sign : int_lt x.num (pos 0) ≡ negative
    = ap (λ z. int_lt z (pos 0)) (terms-num negative a b is) ∙ sign-above negative a above in
    record {
      terms = record { positive = above; lowest = λ k kb ka. is.lowest k ka kb };
      same =
          sym (ap (λ s. ratio (signed s x.den) (unsigned_abs x.num)) sign ∙ ap (λ d. ratio (signed negative d) (unsigned_abs x.num)) (terms-den negative a b is)
          ∙ ap (ratio (signed negative b)) (terms-size negative a b is));
    }
