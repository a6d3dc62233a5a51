-- Tests and cases of integers.
use Rattle.std.proofs.Common.{Bool, arith, false, if◌then◌else◌, inl, inr, int_eq, int_le, int_lt, pos, refl, true, ℤ, ◌*ℤ◌, ◌<ℤ◌, ◌≡◌, ◌≢◌, ◌≤ℤ◌, ◌⊎◌}
use Rattle.sums.proofs.Words.{Decides-int_eq, by_lt_z, false_from_ne_true, ints}

-- ---- tests

pub int_le-true : (a b : ℤ) → int_le a b ≡ true → a ≤ℤ b
int_le-true a b h = omega (arith, ints)

pub int_le-from : (a b : ℤ) → a ≤ℤ b → int_le a b ≡ true
int_le-from a b h = grind (arith, ints)

pub int_le-false : (a b : ℤ) → b <ℤ a → int_le a b ≡ false
int_le-false a b h = grind (arith, ints)

pub int_lt-true : (a b : ℤ) → int_lt a b ≡ true → a <ℤ b
int_lt-true a b h = omega (arith, ints)

pub int_lt-from : (a b : ℤ) → a <ℤ b → int_lt a b ≡ true
int_lt-from a b h = grind (arith, ints)

pub int_lt-false : (a b : ℤ) → b ≤ℤ a → int_lt a b ≡ false
int_lt-false a b h = grind (arith, ints)

pub int_eq-false : (a b : ℤ) → a ≢ b → int_eq a b ≡ false
int_eq-false a b differ = false_from_ne_true (int_eq a b) (λ e. differ ((Decides-int_eq a b).0 e))

-- ---- cases

pub int_lt_cases : (a b : ℤ) → (a <ℤ b) ⊎ (b ≤ℤ a)
int_lt_cases a b = by_lt_z a b (λ less. inl less) (λ most. inr most)

pub int_le_cases : (a b : ℤ) → ((int_le a b ≡ true) × (a ≤ℤ b)) ⊎ ((int_le a b ≡ false) × (b <ℤ a))
int_le_cases a b = by_lt_z b a (λ less. inr (int_le-false a b less, less)) (λ most. inl (int_le-from a b most, most))

pub strictly : (a b : ℤ) → a ≤ℤ b → a ≢ b → a <ℤ b
strictly a b h differ = by_lt_z a b (λ less. less) (λ most. absurd (differ (omega (arith, ints))))

-- ---- a number where a test holds, and 0 elsewhere

pub if_zero : (b : Bool) (x : ℤ) → x ≡ pos 0 → (if b then x else pos 0) ≡ pos 0
if_zero true x none = none
if_zero false x none = refl

pub if_between : (b : Bool) (x : ℤ) → pos 0 ≤ℤ x → (pos 0 ≤ℤ (if b then x else pos 0)) × ((if b then x else pos 0) ≤ℤ x)
if_between true x some = (some, omega (arith, ints))
if_between false x some = (omega (arith, ints), some)

pub if_one-times : (b : Bool) (x : ℤ) → (if b then pos 1 else pos 0) *ℤ x ≡ (if b then x else pos 0)
if_one-times true x = omega (arith, ints)
if_one-times false x = omega (arith, ints)
