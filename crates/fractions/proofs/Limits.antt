-- Rationals within the limits, and what a call gives.
use Rattle.fractions.proofs.Words.{Gives, IsWithinLimits, Rational, bounded_ratio, cond_some, false_from_ne_true, is_within_limits, nat_tests, ratio}
use Rattle.fractions.proofs.Words.{ratio-den_le, ratio-num_le, ratio-self, whole}
use Rattle.std.proofs.Common.{Decides, None, Option, SFits, Some, ap, arith, false, if◌then◌else◌, negsuc, pos, refl, subst, suc, sym, true, unsigned_abs, w64}
use Rattle.std.proofs.Common.{zero, ℕ, ℤ, ◌<◌, ◌^◌, ◌∙◌, ◌≡◌, ◌≤◌}

-- a call that gives a: none where a is outside the limits, and a where it is within
pub gives_none : (a : Rational) → (IsWithinLimits a → ⊥) → Gives None a
gives_none a outside = record { fits = (λ some. cc some, λ within. absurd (outside within)); value = tt }

pub gives_some : (a b : Rational) → IsWithinLimits a → b ≡ a → Gives (Some b) a
gives_some a b within same = record { fits = (λ _. within, λ _. refl); value = same }

-- and back: what a `None` and a `Some` say
pub outside_from_none : (a : Rational) → Gives None a → IsWithinLimits a → ⊥
outside_from_none a is within = cc (is.fits.1 within)

pub within_from_some : (a b : Rational) → Gives (Some b) a → IsWithinLimits a
within_from_some a b is = is.fits.0 refl

pub Decides-is_within_limits : (a : Rational) → Decides (is_within_limits a) (IsWithinLimits a)
Decides-is_within_limits a = (to, from)
  where
    to : is_within_limits a ≡ true → IsWithinLimits a
    to e = record { den = grind (arith, nat_tests); num = grind (arith, nat_tests) }

    from : IsWithinLimits a → is_within_limits a ≡ true
    from within =
        let den = within.den in
        let num = within.num in
        grind (arith, nat_tests)

-- what a call forms
pub value_formed : (a b : Rational) (r : Option Rational) → r ≡ Some b → Gives r a → b ≡ a
value_formed a b r formed is = (rw formed at is).value

pub within_formed : (a b : Rational) (r : Option Rational) → r ≡ Some b → Gives r a → is_within_limits a ≡ true
within_formed a b r formed is = (Decides-is_within_limits a).1 (within_from_some a b (rw formed at is))

pub within_not_formed : (a : Rational) (r : Option Rational) → r ≡ None → Gives r a → is_within_limits a ≡ false
within_not_formed a r none is =
    false_from_ne_true (is_within_limits a) (λ e. outside_from_none a (rw none at is) ((Decides-is_within_limits a).0 e))

-- and so the whole answer
pub Gives-is : (a : Rational) (r : Option Rational) → Gives r a → r ≡ (if is_within_limits a then Some a else None)
Gives-is a None is = rw (within_not_formed a None refl is) refl
Gives-is a (Some b) is = rw (within_formed a b (Some b) refl is) (ap Some is.value)

-- ---- a numerator over a denominator

pub bounded-gives : (r : Option Rational) (n : ℤ) (d : ℕ) → 0 < d → Gives r (ratio n d) → r ≡ bounded_ratio n d
unfolding bounded_ratio
bounded-gives r n zero some gives = absurd (omega (arith, some))
bounded-gives r n (suc d) some gives = Gives-is (ratio n (suc d)) r gives

pub bounded_within : (n : ℤ) (d : ℕ) (r : Rational) → bounded_ratio n d ≡ Some r → IsWithinLimits r
unfolding bounded_ratio
bounded_within n zero r is = cc is
bounded_within n (suc d) r is =
    let parts = cond_some (is_within_limits (ratio n (suc d))) (ratio n (suc d)) r is in
    subst IsWithinLimits parts.1 ((Decides-is_within_limits (ratio n (suc d))).0 parts.0)

-- a fraction within the limits is that of its own numbers
pub bounded_back : (a : Rational) → IsWithinLimits a → (d : ℕ) → a.den ≡ d → bounded_ratio a.num d ≡ Some a
unfolding bounded_ratio
bounded_back a within zero none = absurd (omega (arith, none, a.positive))
bounded_back a within (suc d) some =
    let same : ratio a.num (suc d) ≡ a = ap (ratio a.num) (sym some) ∙ ratio-self a in
    let fits = (Decides-is_within_limits a).1 within in
    rw (same, fits) refl

-- ---- numbers that are small enough

-- numbers within the bounds are so in lowest form too
pub within-ratio : (n : ℤ) (d : ℕ) → 0 < d → unsigned_abs n ≤ 2 ^ 76 → d ≤ 2 ^ 48 → IsWithinLimits (ratio n d)
within-ratio n d some num den =
    record { den = omega (arith, ratio-den_le n d some); num = omega (arith, ratio-num_le n d) }

pub within-whole : (n : ℤ) → unsigned_abs n ≤ 2 ^ 76 → IsWithinLimits (whole n)
within-whole n small = record { den = omega arith; num = small }

-- a whole number of 64 bits
pub size-whole : (n : ℤ) → SFits w64 n → unsigned_abs n ≤ 2 ^ 63
size-whole (pos a) f = omega arith
size-whole (negsuc a) f = omega arith
