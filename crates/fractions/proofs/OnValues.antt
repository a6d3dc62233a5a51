-- The definitions compute on worked values.
use Rattle.fractions.specs.Lowest.{gcd, last_remainder}
use Rattle.std.specs.Fmt.{digits}
use Rattle.fractions.proofs.Words.{Less, Rational, codes, fraction_text, lowest_form, minus, over, plus, ratio, rational_cmp, reciprocal, times, whole}
use Rattle.std.proofs.Common.{negsuc, pos, refl, ℕ, ℤ, ◌≡◌}

-- the two numbers of a rational
abbrev numbers : Rational → ℤ × ℕ
numbers a = (a.num, a.den)

reduced : numbers (ratio (pos 4) 6) ≡ (pos 2, 3)
unfolding ratio lowest_form gcd last_remainder
reduced = refl

negative : numbers (ratio (negsuc 2) 6) ≡ (negsuc 0, 2)
unfolding ratio lowest_form gcd last_remainder
negative = refl

nothing : numbers (ratio (pos 0) 5) ≡ (pos 0, 1)
unfolding ratio lowest_form gcd last_remainder
nothing = refl

sum : numbers (plus (ratio (pos 1) 2) (ratio (pos 1) 3)) ≡ (pos 5, 6)
unfolding plus ratio lowest_form gcd last_remainder
sum = refl

difference : numbers (minus (ratio (pos 1) 3) (ratio (pos 1) 2)) ≡ (negsuc 0, 6)
unfolding minus ratio lowest_form gcd last_remainder
difference = refl

fine_sum : numbers (plus (ratio (pos 1) 281474976710656) (ratio (pos 1) 281474976710655))
    ≡ (pos 562949953421311, 79228162514264056118567239680)
unfolding plus ratio lowest_form gcd last_remainder
fine_sum = refl

product : numbers (times (whole (pos 75557863725914323419136)) (ratio (pos 1) 2)) ≡ (pos 37778931862957161709568, 1)
unfolding times ratio lowest_form gcd last_remainder
product = refl

quotient : numbers (over (ratio (pos 1) 3) (ratio (negsuc 1) 5)) ≡ (negsuc 4, 6)
unfolding over times reciprocal ratio lowest_form gcd last_remainder
quotient = refl

below : rational_cmp (ratio (negsuc 0) 2) (ratio (negsuc 0) 3) ≡ Less
unfolding rational_cmp ratio lowest_form gcd last_remainder
below = refl

text : fraction_text (ratio (negsuc 2) 6) ≡ codes "-1/2"
unfolding ratio lowest_form gcd last_remainder digits
text = refl

whole_text : fraction_text (ratio (negsuc 11) 6) ≡ codes "-2"
unfolding ratio lowest_form gcd last_remainder digits
whole_text = refl
