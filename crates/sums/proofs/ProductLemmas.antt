-- Products of integers: the laws of `*ℤ` with `+ℤ`, `-ℤ`, `≤ℤ` and `<ℤ`, and bounds.
use Rattle.std.proofs.Common.{ap, ap₂, arith, neg_ℤ, negsuc, pos, sym, ℕ, ℤ, ◌*ℤ◌, ◌*◌, ◌+ℤ◌, ◌+◌, ◌-ℤ◌, ◌<ℤ◌, ◌∙◌, ◌≡◌, ◌≤ℤ◌}
use Rattle.sums.proofs.Words.{*ℤ_comm, by_lt_z, clash_ℤ, down, ints, mul-pos, up}

-- a factor that is a sum: an integer z is read as `up z - down z`
pub *ℤ-+ℤ : (a b c : ℤ) → a *ℤ (b +ℤ c) ≡ a *ℤ b +ℤ a *ℤ c
*ℤ-+ℤ a b c =
    let e : up (b +ℤ c) + down b + down c ≡ down (b +ℤ c) + up b + up c = omega (arith, ints) in
    let above = ap (λ x. up a * x) e in
    let below = ap (λ x. down a * x) e in
    omega (arith, ints)

-- a factor that is a difference
pub *ℤ--ℤ : (a b c : ℤ) → a *ℤ (b -ℤ c) ≡ a *ℤ b -ℤ a *ℤ c
*ℤ--ℤ a b c = let whole = ap (λ x. a *ℤ x) {x = b -ℤ c +ℤ c} {y = b} (omega (arith, ints)) in
    let split = *ℤ-+ℤ a (b -ℤ c) c in omega (arith, ints)

pub +ℤ-*ℤ : (a b c : ℤ) → (a +ℤ b) *ℤ c ≡ a *ℤ c +ℤ b *ℤ c
+ℤ-*ℤ a b c = *ℤ_comm (a +ℤ b) c ∙ *ℤ-+ℤ c a b ∙ ap₂ ◌+ℤ◌ (*ℤ_comm c a) (*ℤ_comm c b)

pub -ℤ-*ℤ : (a b c : ℤ) → (a -ℤ b) *ℤ c ≡ a *ℤ c -ℤ b *ℤ c
-ℤ-*ℤ a b c = *ℤ_comm (a -ℤ b) c ∙ *ℤ--ℤ c a b ∙ ap₂ ◌-ℤ◌ (*ℤ_comm c a) (*ℤ_comm c b)

-- ---- several factors

pub *ℤ_assoc : (a b c : ℤ) → a *ℤ b *ℤ c ≡ a *ℤ (b *ℤ c)
*ℤ_assoc a b c =
    let e : up (a *ℤ b) + up a * down b + down a * up b ≡ down (a *ℤ b) + up a * up b + down a * down b
    = omega (arith, ints) in
    let f : up (b *ℤ c) + up b * down c + down b * up c ≡ down (b *ℤ c) + up b * up c + down b * down c
    = omega (arith, ints) in
    omega (arith, ints, ap (λ x. x * up c) e, ap (λ x. x * down c) e, ap (λ x. up a * x) f, ap (λ x. down a * x) f)

pub *ℤ_swap : (a b c : ℤ) → a *ℤ b *ℤ c ≡ a *ℤ c *ℤ b
*ℤ_swap a b c = *ℤ_assoc a b c ∙ ap (λ z. a *ℤ z) (*ℤ_comm b c) ∙ sym (*ℤ_assoc a c b)

pub *ℤ-interchange : (a b c d : ℤ) → a *ℤ b *ℤ (c *ℤ d) ≡ a *ℤ c *ℤ (b *ℤ d)
*ℤ-interchange a b c d = sym (*ℤ_assoc (a *ℤ b) c d) ∙ ap (λ z. z *ℤ d) (*ℤ_swap a b c) ∙ *ℤ_assoc (a *ℤ c) b d

-- a factor 0 or 1
pub *ℤ-pos_one : (a : ℤ) → a *ℤ pos 1 ≡ a
*ℤ-pos_one a = omega (arith, ints)

pub zero_times : (x y : ℤ) → x ≡ pos 0 → x *ℤ y ≡ pos 0
zero_times x y e = ap (λ z. z *ℤ y) e ∙ omega (arith, ints)

pub one_times : (x y : ℤ) → x ≡ pos 1 → x *ℤ y ≡ y
one_times x y e = ap (λ z. z *ℤ y) e ∙ omega (arith, ints)

pub neg_ℤ-*ℤ : (a b : ℤ) → neg_ℤ a *ℤ b ≡ neg_ℤ (a *ℤ b)
neg_ℤ-*ℤ a b =
    let none = sym (+ℤ-*ℤ a (neg_ℤ a) b) ∙ zero_times (a +ℤ neg_ℤ a) b (omega (arith, ints)) in
    omega (arith, ints)

-- ---- order

pub product_not_negative : (a b : ℤ) → pos 0 ≤ℤ a → pos 0 ≤ℤ b → pos 0 ≤ℤ (a *ℤ b)
product_not_negative (pos a) (pos b) h k = omega (arith, ints)
product_not_negative (pos a) (negsuc b) h k = absurd (omega (arith, ints))
product_not_negative (negsuc a) b h k = absurd (omega (arith, ints))

pub product_positive : (a b : ℤ) → pos 0 <ℤ a → pos 0 <ℤ b → pos 0 <ℤ (a *ℤ b)
product_positive (pos a) (pos b) h k =
    let some = mul-pos {m = a} {n = b} (omega (arith, ints)) (omega (arith, ints)) in
    omega (arith, ints)
product_positive (pos a) (negsuc b) h k = absurd (omega (arith, ints))
product_positive (negsuc a) b h k = absurd (omega (arith, ints))

-- a factor that is not negative keeps an order
pub *ℤ-≤ℤ_right : (c a b : ℤ) → pos 0 ≤ℤ c → a ≤ℤ b → (a *ℤ c) ≤ℤ (b *ℤ c)
*ℤ-≤ℤ_right c a b h le =
    let more = product_not_negative (b -ℤ a) c (omega (arith, ints)) h in
    let split = -ℤ-*ℤ b a c in
    omega (arith, ints)

pub *ℤ-≤ℤ_left : (c a b : ℤ) → pos 0 ≤ℤ c → a ≤ℤ b → (c *ℤ a) ≤ℤ (c *ℤ b)
*ℤ-≤ℤ_left c a b h le = rw (*ℤ_comm c a, *ℤ_comm c b) (*ℤ-≤ℤ_right c a b h le)

-- one that is above 0 keeps it strictly
pub *ℤ-<ℤ_right : (c a b : ℤ) → pos 0 <ℤ c → a <ℤ b → (a *ℤ c) <ℤ (b *ℤ c)
*ℤ-<ℤ_right c a b h less =
    let more = product_positive (b -ℤ a) c (omega (arith, ints)) h in
    let split = -ℤ-*ℤ b a c in
    omega (arith, ints)

-- and one that is at most 0 turns it
pub *ℤ-≤ℤ_turned : (a b c : ℤ) → a ≤ℤ pos 0 → c ≤ℤ b → (a *ℤ b) ≤ℤ (a *ℤ c)
*ℤ-≤ℤ_turned a b c h le =
    let more = product_not_negative (neg_ℤ a) (b -ℤ c) (omega (arith, ints)) (omega (arith, ints)) in
    let split = *ℤ--ℤ a b c in
    let turned = neg_ℤ-*ℤ a (b -ℤ c) in
    omega (arith, ints)

-- a factor is taken away
pub <ℤ_from_*ℤ : (c a b : ℤ) → pos 0 ≤ℤ c → (a *ℤ c) <ℤ (b *ℤ c) → a <ℤ b
<ℤ_from_*ℤ c a b some h = by_lt_z a b (λ less. less) (λ not_less. clash_ℤ h (*ℤ-≤ℤ_right c b a some not_less))

pub ≤ℤ_from_*ℤ : (c a b : ℤ) → pos 0 <ℤ c → (a *ℤ c) ≤ℤ (b *ℤ c) → a ≤ℤ b
≤ℤ_from_*ℤ c a b some h = by_lt_z b a (λ less. clash_ℤ (*ℤ-<ℤ_right c b a some less) h) (λ not_less. not_less)

pub *ℤ_cancel_right : (c a b : ℤ) → pos 0 <ℤ c → a *ℤ c ≡ b *ℤ c → a ≡ b
*ℤ_cancel_right c a b some e = let upto = ≤ℤ_from_*ℤ c a b some (omega (arith, ints)) in
    let from = ≤ℤ_from_*ℤ c b a some (omega (arith, ints)) in omega (arith, ints)

-- ---- bounds

-- a product with a number that is not negative is within the product of the bounds
pub product_within : (a b : ℤ) (m n : ℕ) → neg_ℤ (pos m) ≤ℤ a → a ≤ℤ pos m → pos 0 ≤ℤ b → b ≤ℤ pos n
    → (neg_ℤ (pos (m * n)) ≤ℤ (a *ℤ b)) × ((a *ℤ b) ≤ℤ pos (m * n))
product_within a b m n a0 am b0 bn =
    let low = *ℤ-≤ℤ_right b (neg_ℤ (pos m)) a b0 a0 in
    let high = *ℤ-≤ℤ_right b a (pos m) b0 am in
    let both = *ℤ-≤ℤ_left (pos m) b (pos n) (omega (arith, ints)) bn in
    let turned = neg_ℤ-*ℤ (pos m) b in
    (omega (arith, ints), omega (arith, ints))

pub product_between : (a b : ℤ) (m n : ℕ) → pos 0 ≤ℤ a → a ≤ℤ pos m → pos 0 ≤ℤ b → b ≤ℤ pos n
    → (pos 0 ≤ℤ (a *ℤ b)) × ((a *ℤ b) ≤ℤ pos (m * n))
product_between a b m n a0 am b0 bn =
    (product_not_negative a b a0 b0, (product_within a b m n (omega (arith, ints)) am b0 bn).1)
