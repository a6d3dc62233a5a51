-- The laws of products and quotients.
use Rattle.fractions.proofs.Ratios.{by_one, by_three, by_two, one_denominator, ratio-one, ratio-same, ratio-zero, times-ratio}
use Rattle.fractions.proofs.Words.{*ℤ-+ℤ, *ℤ--ℤ, *ℤ-pos_one, *ℤ-zero, *ℤ_assoc, *ℤ_comm, Rational, eq-zero-or-pos, minus, mul-one, mul-pos, over, plus, ratio}
use Rattle.fractions.proofs.Words.{ratio-self, rational_one, rational_zero, reciprocal, signed, signed-*ℤ-signed, signed-sign, times, zero_from_size}
use Rattle.std.proofs.Common.{Bool, ap, ap₂, arith, false, int_lt, pos, sym, true, unsigned_abs, ℕ, ⊎_elim, ◌*ℤ◌, ◌*◌, ◌<◌, ◌∙◌, ◌≡◌, ◌≢◌}

-- ---- products

pub times_comm : (a b : Rational) → times a b ≡ times b a
times_comm = by_two _ (λ n m d some. simp times-ratio (ap (λ z. ratio z (d * d)) (*ℤ_comm n m)))

pub times_assoc : (a b c : Rational) → times (times a b) c ≡ times a (times b c)
times_assoc = by_three _ (λ n m l d some.
    let square = mul-pos some some in
    ap (λ x. times x (ratio l d)) (times-ratio n m d d some some)
    ∙ times-ratio (n *ℤ m) l (d * d) d square some ∙ ap₂ ratio (*ℤ_assoc n m l) (omega arith)
    ∙ sym (times-ratio n (m *ℤ l) d (d * d) some square) ∙ ap (times (ratio n d)) (sym (times-ratio m l d d some some)))

pub times-one : (a : Rational) → times a rational_one ≡ a
times-one =
    by_one _ (λ n d some. ap (times (ratio n d)) (sym (ratio-one (pos 1))) ∙ times-ratio n (pos 1) d 1 some (omega arith)
    ∙ ap₂ ratio (*ℤ-pos_one n) (mul-one d))

pub times-zero : (a : Rational) → times a rational_zero ≡ rational_zero
times-zero =
    by_one _ (λ n d some. ap (times (ratio n d)) (sym (ratio-one (pos 0))) ∙ times-ratio n (pos 0) d 1 some (omega arith)
    ∙ ap (λ z. ratio z (d * 1)) (*ℤ-zero n) ∙ ratio-zero (d * 1))

pub zero-times : (a : Rational) → times rational_zero a ≡ rational_zero
zero-times a = times_comm rational_zero a ∙ times-zero a

pub times-plus : (a b c : Rational) → times a (plus b c) ≡ plus (times a b) (times a c)
times-plus = by_three _ (λ n m l d some. simp (one_denominator, times-ratio) (ap (λ z. ratio z (d * d)) (*ℤ-+ℤ n m l)))

pub times-minus : (a b c : Rational) → times a (minus b c) ≡ minus (times a b) (times a c)
times-minus = by_three _ (λ n m l d some. simp (one_denominator, times-ratio) (ap (λ z. ratio z (d * d)) (*ℤ--ℤ n m l)))

pub plus-times : (a b c : Rational) → times (plus a b) c ≡ plus (times a c) (times b c)
plus-times a b c = times_comm (plus a b) c ∙ times-plus c a b ∙ ap₂ plus (times_comm c a) (times_comm c b)

pub times_swap : (a b c : Rational) → times (times a b) c ≡ times (times a c) b
times_swap a b c = times_assoc a b c ∙ ap (times a) (times_comm b c) ∙ sym (times_assoc a c b)

-- ---- reciprocals

pub zero_from_num : (a : Rational) → a.num ≡ pos 0 → a ≡ rational_zero
zero_from_num a none = sym (ratio-self a) ∙ ap (λ z. ratio z a.den) none ∙ ratio-zero a.den

pub size-positive : (a : Rational) → a ≢ rational_zero → 0 < unsigned_abs a.num
size-positive a some =
    ⊎_elim (λ none. absurd (some (zero_from_num a (zero_from_size a.num none)))) (λ above. above) (eq-zero-or-pos (unsigned_abs a.num))

square_of_sign : (negative : Bool) (a b : ℕ) → signed negative a *ℤ signed negative b ≡ pos (a * b)
square_of_sign false a b = signed-*ℤ-signed false false a b
square_of_sign true a b = signed-*ℤ-signed true true a b

pub times-reciprocal : (a : Rational) → a ≢ rational_zero → times a (reciprocal a) ≡ rational_one
unfolding reciprocal
times-reciprocal a some =
    let negative = int_lt a.num (pos 0) in
    let size = unsigned_abs a.num in
    let above = size-positive a some in
    let product : a.num *ℤ signed negative a.den ≡ pos (size * a.den) =
    ap (λ z. z *ℤ signed negative a.den) (sym (signed-sign a.num)) ∙ square_of_sign negative size a.den in
    ap (λ x. times x (reciprocal a)) (sym (ratio-self a))
    ∙ times-ratio a.num (signed negative a.den) a.den size a.positive above
    ∙ ap (λ z. ratio z (a.den * size)) product
    ∙ ratio-same (pos (size * a.den)) (pos 1) (a.den * size) 1 (mul-pos a.positive above) (omega arith) (ap pos (omega arith))
    ∙ ratio-one (pos 1)

-- ---- cancelling

pub times_cancel_right : (a b c : Rational) → c ≢ rational_zero → times a c ≡ times b c → a ≡ b
times_cancel_right a b c some same = sym (back a) ∙ ap (λ x. times x (reciprocal c)) same ∙ back b
  where
    back : (x : Rational) → times (times x c) (reciprocal c) ≡ x
    back x = times_assoc x c (reciprocal c) ∙ ap (times x) (times-reciprocal c some) ∙ times-one x

-- ---- quotients

-- the quotient times the divisor
pub over-times : (a b : Rational) → b ≢ rational_zero → times (over a b) b ≡ a
unfolding over
over-times a b some =
    times_assoc a (reciprocal b) b ∙ ap (times a) (times_comm (reciprocal b) b ∙ times-reciprocal b some) ∙ times-one a

pub times-over : (a b : Rational) → b ≢ rational_zero → times b (over a b) ≡ a
times-over a b some = times_comm b (over a b) ∙ over-times a b some

-- what times the divisor is a, is the quotient
pub over_from_times : (q a b : Rational) → b ≢ rational_zero → times q b ≡ a → q ≡ over a b
over_from_times q a b some same = times_cancel_right q (over a b) b some (same ∙ sym (over-times a b some))
