-- Common divisors of two numbers, and numbers without one.
use Rattle.std.proofs.Common.{◌≡◌, ◌<◌, ◌≤◌, ◌+◌, ◌*◌, ◌/◌, ◌%◌, ◌∙◌, ℕ, zero, suc, refl, sym, ap, subst, arith}
use Prim.Native.Nat.{◌∣◌}
use Rattle.std.specs.Int.{IsGcd}
use Rattle.std.proofs.lemmas.Nat.Gcd.{IsGcd-from_mod, IsGcd-from_zero, dvd_refl, dvd_trans, dvd_antisymm, dvd-zero}
use Rattle.std.proofs.Math.Nat.{add-mul-mod_self_left, mod-eq_of_lt, div-add-mod, mul-lt-mul_of_pos_left, mul-pos, dvd-mul_left, dvd-mul_right, mul-dvd-mul_right, dvd_of_mul-dvd-mul_right, eq_of_mul-eq-mul_right, eq-one_of_dvd-one, div-mul_cancel, pos_of_dvd_of_pos}

-- no number but 1 divides both
abbrev pub IsLowest : ℕ → ℕ → Type 0
IsLowest a b = (k : ℕ) → k ∣ a → k ∣ b → k ≡ 1

-- the last of a, b and their remainders in turn that is not 0, found in n steps
unfoldable pub last_remainder : ℕ → ℕ → ℕ → ℕ
last_remainder zero a b = a
last_remainder (suc n) a zero = a
last_remainder (suc n) a (suc b) = last_remainder n (suc b) (a % suc b)

-- the greatest common divisor of a and b (`gcd_is` below)
unfoldable pub gcd : ℕ → ℕ → ℕ
gcd a b = last_remainder b a b

-- ---- the greatest common divisor of multiples

mod-scale : (a b e : ℕ) → 0 < b → 0 < e → (a * e) % (b * e) ≡ (a % b) * e
mod-scale a b e hb he =
    let split = div-add-mod a b in
    let small : a % b < b = omega arith in
    let below : e * (a % b) < e * b = mul-lt-mul_of_pos_left small he in
    let parts : a * e ≡ (a % b) * e + (b * e) * (a / b) = omega (arith, ap (λ x. x * e) split) in
    ap (λ x. x % (b * e)) parts ∙ add-mul-mod_self_left ((a % b) * e) (b * e) (a / b) ∙ mod-eq_of_lt (omega arith)

-- g is the greatest common divisor of a and b, and stays it where both are multiplied
record Scales (a b g : ℕ) : Type 0 where
  is : IsGcd a b g
  scaled : (e : ℕ) → 0 < e → IsGcd (a * e) (b * e) (g * e)

last_remainder-scales : (n a b : ℕ) → b ≤ n → Scales a b (last_remainder n a b)
unfolding last_remainder
last_remainder-scales zero a zero h = record {
  is = IsGcd-from_zero a 0 refl;
  scaled = λ e some. IsGcd-from_zero (a * e) (0 * e) (omega arith);
}
last_remainder-scales zero a (suc b) h = absurd (omega (arith, h))
last_remainder-scales (suc n) a zero h = record {
  is = IsGcd-from_zero a 0 refl;
  scaled = λ e some. IsGcd-from_zero (a * e) (0 * e) (omega arith);
}
last_remainder-scales (suc n) a (suc b) h =
    let less : a % suc b ≤ n = omega arith in
    let g = last_remainder n (suc b) (a % suc b) in
    let s = last_remainder-scales n (suc b) (a % suc b) less in
    record {
      is = IsGcd-from_mod a (suc b) g s.is;
      scaled =
          λ e some. IsGcd-from_mod (a * e) (suc b * e) (g * e) (rw (mod-scale a (suc b) e (omega arith) some) (s.scaled e some));
    }

gcd-scales : (a b : ℕ) → Scales a b (gcd a b)
unfolding gcd
gcd-scales a b = last_remainder-scales b a b (omega arith)

pub gcd_is : (a b : ℕ) → IsGcd a b (gcd a b)
gcd_is a b = (gcd-scales a b).is

-- ---- numbers with no common divisor

-- a divisor of a * e that has no common divisor with a divides e
pub divides_other : (a d e : ℕ) → 0 < e → IsLowest a d → d ∣ a * e → d ∣ e
divides_other a d e some lowest h =
    let s = gcd-scales a d in
    let one : gcd a d ≡ 1 = lowest (gcd a d) s.is.0 s.is.1 in
    let all = (s.scaled e some).2 d h (dvd-mul_right d e) in
    let same : gcd a d * e ≡ e = rw one (omega arith) in
    subst (λ x. d ∣ x) same all

-- a value has one lowest form
pub one_lowest : (a b d e : ℕ) → 0 < d → 0 < e → IsLowest a d → IsLowest b e → a * e ≡ b * d → (a ≡ b) × (d ≡ e)
one_lowest a b d e hd he la lb cross =
    let there : d ∣ e = divides_other a d e he la (subst (λ x. d ∣ x) (sym cross) (dvd-mul_left d b)) in
    let back : e ∣ d = divides_other b e d hd lb (subst (λ x. e ∣ x) cross (dvd-mul_left e a)) in
    let same : d ≡ e = dvd_antisymm there back in
    let front : a * e ≡ b * e = cross ∙ ap (λ x. b * x) same in
    (eq_of_mul-eq-mul_right e he a b front, same)

lowest-swap : (a b : ℕ) → IsLowest a b → IsLowest b a
lowest-swap a b low k kb ka = low k ka kb

-- divisors of numbers with no common divisor have none
lowest-parts : (a b m n : ℕ) → m ∣ a → n ∣ b → IsLowest a b → IsLowest m n
lowest-parts a b m n ma nb low k km kn = low k (dvd_trans k km ma) (dvd_trans k kn nb)

-- nor has a product
lowest-mul : (a b c : ℕ) → IsLowest a c → IsLowest b c → IsLowest (a * b) c
lowest-mul a zero c la lb k kab kc =
    let one : c ≡ 1 = lb c (dvd-zero c) (dvd_refl c) in
    eq-one_of_dvd-one (subst (λ x. k ∣ x) one kc)
lowest-mul a (suc b) c la lb k kab kc =
    let apart : IsLowest a k = λ j ja jk. la j ja (dvd_trans j jk kc) in
    lb k (divides_other a k (suc b) (omega arith) apart kab) kc

pub IsLowest-one : (a : ℕ) → IsLowest a 1
IsLowest-one a k ka k1 = eq-one_of_dvd-one k1

-- ---- what is left behind a common divisor

-- a and d, divided by g, are size and den, which have no common divisor
pub record Divides (a d g size den : ℕ) : Type 0 where
  pub some : 0 < g
  pub whole : a ≡ size * g
  pub under : d ≡ den * g
  pub positive : 0 < den
  pub lowest : IsLowest size den

positive_part : (d g q : ℕ) → 0 < d → d ≡ q * g → 0 < q
positive_part d g zero hd e = absurd (omega (arith, hd, e))
positive_part d g (suc q) hd e = omega arith

-- what is left behind the greatest common divisor is in lowest form
lowest_left : (a b g m n : ℕ) → 0 < g → IsGcd a b g → a ≡ m * g → b ≡ n * g → IsLowest m n
lowest_left a b g m n some is ea eb k km kn =
    let ka : k * g ∣ a = subst (λ x. k * g ∣ x) (sym ea) (mul-dvd-mul_right k km g) in
    let kb : k * g ∣ b = subst (λ x. k * g ∣ x) (sym eb) (mul-dvd-mul_right k kn g) in
    let kg : k * g ∣ 1 * g = subst (λ x. k * g ∣ x) (omega arith) (is.2 (k * g) ka kb) in
    eq-one_of_dvd-one (dvd_of_mul-dvd-mul_right k some kg)

pub divided : (a d g : ℕ) → 0 < d → IsGcd a d g → Divides a d g (a / g) (d / g)
divided a d g hd is =
    let some = pos_of_dvd_of_pos is.1 hd in
    let whole : a ≡ a / g * g = sym (div-mul_cancel g is.0) in
    let under : d ≡ d / g * g = sym (div-mul_cancel g is.1) in
    record {
      some = some;
      whole = whole;
      under = under;
      positive = positive_part d g (d / g) hd under;
      lowest = lowest_left a d g (a / g) (d / g) some is whole under;
    }

-- a product of two fractions in lowest form, divided crosswise
divided_crosswise : (a b c d f g p q r s : ℕ) → IsLowest a b → IsLowest c d → Divides a d f p s
    → Divides c b g q r → Divides (a * c) (b * d) (f * g) (p * q) (r * s)
divided_crosswise a b c d f g p q r s la lc one two =
    let pr =
    lowest-parts a b p r (subst (λ x. p ∣ x) (sym one.whole) (dvd-mul_right p f)) (subst (λ x. r ∣ x) (sym two.under) (dvd-mul_right r g)) la in
    let qs =
    lowest-parts c d q s (subst (λ x. q ∣ x) (sym two.whole) (dvd-mul_right q g)) (subst (λ x. s ∣ x) (sym one.under) (dvd-mul_right s f)) lc in
    let with_r : IsLowest (p * q) r = lowest-mul p q r pr two.lowest in
    let with_s : IsLowest (p * q) s = lowest-mul p q s one.lowest qs in
    record {
      some = mul-pos one.some two.some;
      whole = rw (one.whole, two.whole) (omega arith);
      under = rw (one.under, two.under) (omega arith);
      positive = mul-pos two.positive one.positive;
      lowest =
          lowest-swap (r * s) (p * q) (lowest-mul r s (p * q) (lowest-swap (p * q) r with_r) (lowest-swap (p * q) s with_s));
    }

pub crosswise : (a b c d f g : ℕ) → IsLowest a b → IsLowest c d → 0 < b → 0 < d → IsGcd a d f → IsGcd c b g
    → Divides (a * c) (b * d) (f * g) (a / f * (c / g)) (b / g * (d / f))
crosswise a b c d f g la lc hb hd one two =
    divided_crosswise a b c d f g (a / f) (c / g) (b / g) (d / f) la lc (divided a d f hd one) (divided c b g hb two)
