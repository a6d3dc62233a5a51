-- Numbers over a denominator, of a size up to some bound: what is made of them, and when they are within the limits of a fraction.
use Rattle.fractions.proofs.Comparisons.{at_most_from_ratio_whole, not_negative_from_ratio}
use Rattle.network_audit.proofs.Words.{IsAtMost, IsWithinLimits, Rational, ints, minus, minus-ratio_same_den, mul-le-mul, plus, plus-ratio_same_den, ratio}
use Rattle.network_audit.proofs.Words.{ratio-multiple, rational_zero, times, times-ratio, unsigned_abs-mul, whole, within-ratio}
use Rattle.std.proofs.Common.{ap₂, arith, pos, subst, sym, unsigned_abs, ℕ, ℤ, ◌*ℤ◌, ◌*◌, ◌+ℤ◌, ◌+◌, ◌-ℤ◌, ◌<◌, ◌∙◌, ◌≡◌, ◌≤◌}
pub use Rattle.network_audit.specs.Sized.{IsSized, most_den, most_num}

pub sized-within : (d m : ℕ) (a : Rational) → 0 < d → d ≤ most_den → m * d ≤ most_num → IsSized d m a → IsWithinLimits a
sized-within d m a some den most sized =
    subst IsWithinLimits (sym sized.is) (within-ratio sized.num d some (omega (arith, most)) den)

-- a larger bound
pub sized-more : (d m n : ℕ) (a : Rational) → m ≤ n → IsSized d m a → IsSized d n a
sized-more d m n a more sized =
    let larger : m * d ≤ n * d = mul-le-mul more (omega arith) in
    record { num = sized.num; is = sized.is; small = omega (arith, larger) }

-- whole numbers, over any denominator
pub sized-whole : (d m : ℕ) (n : ℤ) → 0 < d → unsigned_abs n ≤ m → IsSized d m (whole n)
sized-whole d m n some small =
    let larger : unsigned_abs n * d ≤ m * d = mul-le-mul small (omega arith) in
    record { num = n *ℤ pos d; is = sym (ratio-multiple n d some); small = omega (arith, larger, unsigned_abs-mul n (pos d)) }

-- a number of this denominator that is at least 0 and at most a whole one
pub sized-between : (d m : ℕ) (a : Rational) (n : ℤ) → 0 < d → a ≡ ratio n d → IsAtMost rational_zero a
    → IsAtMost a (whole (pos m)) → IsSized d m a
sized-between d m a n some is least most =
    let upto = at_most_from_ratio_whole n (pos m) d some (subst (λ x. IsAtMost x (whole (pos m))) is most) in
    record { num = n; is = is; small = omega (arith, ints, not_negative_from_ratio n d some (subst (IsAtMost rational_zero) is least), upto) }

-- ---- sums, differences and products

pub sized-plus : (d m n : ℕ) (a b : Rational) → IsSized d m a → IsSized d n b → IsSized d (m + n) (plus a b)
sized-plus d m n a b one two =
    record { num = one.num +ℤ two.num; is = ap₂ plus one.is two.is ∙ plus-ratio_same_den one.num two.num d; small = omega (arith, ints) }

pub sized-minus : (d m n : ℕ) (a b : Rational) → IsSized d m a → IsSized d n b → IsSized d (m + n) (minus a b)
sized-minus d m n a b one two =
    record { num = one.num -ℤ two.num; is = ap₂ minus one.is two.is ∙ minus-ratio_same_den one.num two.num d; small = omega (arith, ints) }

pub sized-times : (d e m n : ℕ) (a b : Rational) → 0 < d → 0 < e → IsSized d m a → IsSized e n b
    → IsSized (d * e) (m * n) (times a b)
sized-times d e m n a b some_d some_e one two =
    let product : unsigned_abs one.num * unsigned_abs two.num ≤ m * d * (n * e) = mul-le-mul one.small two.small in
    record {
      num = one.num *ℤ two.num;
      is = ap₂ times one.is two.is ∙ times-ratio one.num two.num d e some_d some_e;
      small = omega (arith, product, unsigned_abs-mul one.num two.num);
    }
