-- Euclid's algorithm takes a number of steps that is logarithmic: each but the first takes a binary digit from one of its two numbers.
use Rattle.std.proofs.Common.{arith, cond, length, ltb, subst, ℕ, ⊎_elim, ◌%◌, ◌*◌, ◌+◌, ◌/◌, ◌<◌, ◌^◌, ◌≡◌, ◌≤◌}
use Rattle.fractions.proofs.Words.{cases_lt, digits_of, div-add-mod, le-div, mod-eq_of_lt, mul-le-mul_left, nat_tests}
use Rattle.std.proofs.lemmas.Int.Digits.{all_below_base_digits_of, length-digits_of-le, length-digits_of_step, number_digits_of, number_lt}

-- how many binary digits n has
unfoldable pub binary_digits : ℕ → ℕ
binary_digits n = length (digits_of 2 n)

below_power : (n : ℕ) → n < 2 ^ binary_digits n
unfolding binary_digits
below_power n =
    subst (λ m. m < 2 ^ length (digits_of 2 n)) (number_digits_of 2 n (omega arith)) (number_lt 2 (digits_of 2 n) (all_below_base_digits_of 2 n (omega arith)))

-- half of n or less has fewer
fewer_digits : (m n : ℕ) → 0 < n → 2 * m ≤ n → binary_digits m < binary_digits n
unfolding binary_digits
fewer_digits m n some h = let step = length-digits_of_step 2 n (omega arith) some in
    let few = length-digits_of-le 2 (length (digits_of 2 (n / 2))) m (omega arith) (omega (arith, h, below_power (n / 2))) in
    omega (arith, step, few)

-- the steps that are left
unfoldable pub steps_left : ℕ → ℕ → ℕ
steps_left x y = binary_digits x + binary_digits y + cond (ltb x y) 1 0

-- the first step may only exchange the numbers
exchange : (x y : ℕ) → x < y → steps_left y (x % y) < steps_left x y
unfolding steps_left
exchange x y h = let rest : x % y ≡ x = mod-eq_of_lt h in rw rest (grind (arith, nat_tests))

-- and each other leaves at most half of the first one
halve : (x y : ℕ) → 0 < y → y ≤ x → steps_left y (x % y) < steps_left x y
unfolding steps_left
halve x y some h =
    let split = div-add-mod x y in
    let rest : x % y < y = omega arith in
    let once = mul-le-mul_left y (le-div 1 x y some (omega (arith, h))) in
    let fewer = fewer_digits (x % y) x (omega (arith, some, h)) (omega (arith, split, rest, once)) in
    grind (arith, nat_tests)

pub steps_left-decreases : (x y : ℕ) → 0 < y → steps_left y (x % y) < steps_left x y
steps_left-decreases x y some = ⊎_elim (exchange x y) (halve x y some) (cases_lt x y)
