-- The laws of sums and differences.
use Rattle.fractions.proofs.Ratios.{by_four, by_one, by_three, by_two, minus-ratio_same_den, one_denominator, plus-ratio_same_den, ratio-zero}
use Rattle.fractions.proofs.Words.{Rational, ints, minus, plus, ratio, rational_zero}
use Rattle.std.proofs.Common.{ap, arith, pos, sym, ◌∙◌, ◌≡◌}

-- ---- sums

pub plus_comm : (a b : Rational) → plus a b ≡ plus b a
plus_comm = by_two _ (λ n m d some. simp one_denominator (ap (λ k. ratio k d) (omega (arith, ints))))

pub plus_assoc : (a b c : Rational) → plus (plus a b) c ≡ plus a (plus b c)
plus_assoc = by_three _ (λ n m l d some. simp one_denominator (ap (λ k. ratio k d) (omega (arith, ints))))

pub plus-zero : (a : Rational) → plus a rational_zero ≡ a
plus-zero =
    by_one _ (λ n d some. ap (plus (ratio n d)) (sym (ratio-zero d)) ∙ plus-ratio_same_den n (pos 0) d ∙ ap (λ k. ratio k d) (omega (arith, ints)))

pub zero-plus : (a : Rational) → plus rational_zero a ≡ a
zero-plus a = plus_comm rational_zero a ∙ plus-zero a

pub plus_swap_left : (a b c : Rational) → plus a (plus b c) ≡ plus b (plus a c)
plus_swap_left = by_three _ (λ n m l d some. simp one_denominator (ap (λ k. ratio k d) (omega (arith, ints))))

pub plus_swap_right : (a b c : Rational) → plus (plus a b) c ≡ plus (plus a c) b
plus_swap_right = by_three _ (λ n m l d some. simp one_denominator (ap (λ k. ratio k d) (omega (arith, ints))))

pub plus-interchange : (a b c e : Rational) → plus (plus a b) (plus c e) ≡ plus (plus a c) (plus b e)
plus-interchange = by_four _ (λ n m l k d some. simp one_denominator (ap (λ z. ratio z d) (omega (arith, ints))))

-- ---- differences

pub minus-self : (a : Rational) → minus a a ≡ rational_zero
minus-self =
    by_one _ (λ n d some. minus-ratio_same_den n n d ∙ ap (λ k. ratio k d) (omega (arith, ints)) ∙ ratio-zero d)

pub minus-zero : (a : Rational) → minus a rational_zero ≡ a
minus-zero =
    by_one _ (λ n d some. ap (minus (ratio n d)) (sym (ratio-zero d)) ∙ minus-ratio_same_den n (pos 0) d ∙ ap (λ k. ratio k d) (omega (arith, ints)))

pub minus-plus : (a b : Rational) → minus (plus a b) b ≡ a
minus-plus = by_two _ (λ n m d some. simp one_denominator (ap (λ k. ratio k d) (omega (arith, ints))))

pub plus-minus : (a b : Rational) → plus (minus a b) b ≡ a
plus-minus = by_two _ (λ n m d some. simp one_denominator (ap (λ k. ratio k d) (omega (arith, ints))))

pub minus-minus_same : (a b c : Rational) → minus (minus a c) (minus b c) ≡ minus a b
minus-minus_same = by_three _ (λ n m l d some. simp one_denominator (ap (λ k. ratio k d) (omega (arith, ints))))

pub minus-minus_self : (a b : Rational) → minus a (minus a b) ≡ b
minus-minus_self = by_two _ (λ n m d some. simp one_denominator (ap (λ k. ratio k d) (omega (arith, ints))))

pub minus-plus_plus : (a b c : Rational) → minus (plus a c) (plus b c) ≡ minus a b
minus-plus_plus = by_three _ (λ n m l d some. simp one_denominator (ap (λ k. ratio k d) (omega (arith, ints))))

pub minus-interchange : (a b c e : Rational) → minus (plus a b) (plus c e) ≡ plus (minus a c) (minus b e)
minus-interchange = by_four _ (λ n m l k d some. simp one_denominator (ap (λ z. ratio z d) (omega (arith, ints))))

pub there_and_back : (a b : Rational) → plus (minus b a) (minus a b) ≡ rational_zero
there_and_back a b = sym (minus-interchange b a a b) ∙ ap (minus (plus b a)) (plus_comm a b) ∙ minus-self (plus b a)

-- ---- cancelling

pub plus_cancel_right : (a b c : Rational) → plus a c ≡ plus b c → a ≡ b
plus_cancel_right a b c same = sym (minus-plus a c) ∙ ap (λ x. minus x c) same ∙ minus-plus b c

pub plus_cancel_left : (a b c : Rational) → plus c a ≡ plus c b → a ≡ b
plus_cancel_left a b c same = plus_cancel_right a b c (plus_comm a c ∙ same ∙ plus_comm c b)

-- what is left of a behind b is what b lacks of a
pub minus_from_plus : (a b c : Rational) → plus c b ≡ a → c ≡ minus a b
minus_from_plus a b c same = sym (minus-plus c b) ∙ ap (λ x. minus x b) same
