-- The laws of the order.
use Rattle.fractions.proofs.Products.{times-minus, times-zero, times_comm, zero-times}
use Rattle.fractions.proofs.Ratios.{by_four, by_three, by_two, one_denominator, ratio-one, ratio-zero, rational_cmp-ratio, times-ratio}
use Rattle.fractions.proofs.Wholes.{ratio-multiple}
use Rattle.fractions.proofs.Words.{Decides-like, Decides-not, IsAtMost, IsBelow, Rational, by_lt_z, clash_ℤ, ints, is_below, minus, mul-pos, plus, pos_above}
use Rattle.fractions.proofs.Words.{ratio, rational_cmp, rational_zero, same_from_decides, same_from_value, subst₂, times, whole, ≤ℤ_refl}
use Rattle.std.proofs.Common.{Bool, Decides, MatchBool, ap, arith, false, inl, inr, int_cmp, int_lt, is_le, is_lt, not, pos, refl, subst, sym, true, ℕ, ℤ}
use Rattle.std.proofs.Common.{⊎_elim, ◌*ℤ◌, ◌*◌, ◌+ℤ◌, ◌-ℤ◌, ◌<ℤ◌, ◌<◌, ◌↔◌, ◌∙◌, ◌≡◌, ◌≢◌, ◌≤ℤ◌, ◌⊎◌}
use Rattle.sums.proofs.ProductLemmas.{*ℤ-<ℤ_right, *ℤ-≤ℤ_right, <ℤ_from_*ℤ, ≤ℤ_from_*ℤ}

-- ---- a total order

pub at_most_refl : (a : Rational) → IsAtMost a a
at_most_refl a = record { cross = ≤ℤ_refl (a.num *ℤ pos a.den) }

pub at_most_from_same : (a b : Rational) → a ≡ b → IsAtMost a b
at_most_from_same a b same = subst (IsAtMost a) same (at_most_refl a)

pub at_most_from_below : (a b : Rational) → IsBelow a b → IsAtMost a b
at_most_from_below a b h = record { cross = omega (arith, ints) }

pub below_not_at_most : (a b : Rational) → IsBelow a b → IsAtMost b a → ⊥
below_not_at_most a b less more = clash_ℤ less.cross more.cross

pub below_not_same : (a b : Rational) → IsBelow a b → a ≢ b
below_not_same a b less same = below_not_at_most a b less (at_most_from_same b a (sym same))

-- of two, one is at most the other
pub below_or_at_most : (a b : Rational) → IsBelow a b ⊎ IsAtMost b a
below_or_at_most a b =
    by_lt_z (a.num *ℤ pos b.den) (b.num *ℤ pos a.den) (λ h. inl (record { cross = h })) (λ h. inr (record { cross = h }))

pub at_most_from_not_below : (a b : Rational) → (IsBelow a b → ⊥) → IsAtMost b a
at_most_from_not_below a b not_less = ⊎_elim (λ less. absurd (not_less less)) (λ more. more) (below_or_at_most a b)

pub below_from_not_at_most : (a b : Rational) → (IsAtMost b a → ⊥) → IsBelow a b
below_from_not_at_most a b not_more = ⊎_elim (λ less. less) (λ more. absurd (not_more more)) (below_or_at_most a b)

pub at_most_antisymm : (a b : Rational) → IsAtMost a b → IsAtMost b a → a ≡ b
at_most_antisymm a b one two =
    let x = one.cross in
    let y = two.cross in
    same_from_value a b (omega (arith, ints, x, y))

-- ---- the tests (for `==`: Decides-rational_eq of specs/Order.antt)

int_lt-decides : (x y : ℤ) → Decides (is_lt (int_cmp x y)) (x <ℤ y)
int_lt-decides x y = (λ e. grind (arith, ints), λ h. grind (arith, ints))

int_le-decides : (x y : ℤ) → Decides (is_le (int_cmp x y)) (x ≤ℤ y)
int_le-decides x y = (λ e. grind (arith, ints), λ h. grind (arith, ints))

pub Decides-is_below : (a b : Rational) → Decides (is_below a b) (IsBelow a b)
unfolding rational_cmp
Decides-is_below a b = Decides-like _ (λ h. record { cross = h }) (λ h. h.cross) (int_lt-decides _ _)

pub Decides-is_le : (a b : Rational) → Decides (is_le (rational_cmp a b)) (IsAtMost a b)
unfolding rational_cmp
Decides-is_le a b = Decides-like _ (λ h. record { cross = h }) (λ h. h.cross) (int_le-decides _ _)

-- of two, b is at most a exactly where a is not below b
pub Decides-not_below : (a b : Rational) → Decides (not (is_below a b)) (IsAtMost b a)
Decides-not_below a b =
    Decides-like _ (at_most_from_not_below a b) (λ more less. below_not_at_most a b less more) (Decides-not (is_below a b) (Decides-is_below a b))

pub is_below-ranks : (a b : Rational) → MatchBool (is_below a b) (IsBelow a b) (IsAtMost b a)
is_below-ranks a b = by (is_below a b) (Decides-is_below a b) (Decides-not_below a b)
  where
    by : (t : Bool) → Decides t (IsBelow a b) → Decides (not t) (IsAtMost b a)
        → MatchBool t (IsBelow a b) (IsAtMost b a)
    by true less more = less.0 refl
    by false less more = more.0 refl

-- ---- ratios are ordered as their cross products are, and over one denominator as their numerators

one_test : {P Q : Type 0} (b : Bool) → Decides b P → Decides b Q → P ↔ Q
one_test b p q = (λ h. q.0 (p.1 h), λ h. p.0 (q.1 h))

pub below-cross : (n m : ℤ) (d e : ℕ) → 0 < d → 0 < e → IsBelow (ratio n d) (ratio m e) ↔ ((n *ℤ pos e) <ℤ (m *ℤ pos d))
below-cross n m d e hd he =
    one_test _ (Decides-is_below (ratio n d) (ratio m e)) (rw (rational_cmp-ratio n m d e hd he) (int_lt-decides (n *ℤ pos e) (m *ℤ pos d)))

pub at_most-cross : (n m : ℤ) (d e : ℕ) → 0 < d → 0 < e
    → IsAtMost (ratio n d) (ratio m e) ↔ ((n *ℤ pos e) ≤ℤ (m *ℤ pos d))
at_most-cross n m d e hd he =
    one_test _ (Decides-is_le (ratio n d) (ratio m e)) (rw (rational_cmp-ratio n m d e hd he) (int_le-decides (n *ℤ pos e) (m *ℤ pos d)))

pub at_most-ratio : (n m : ℤ) (d : ℕ) → 0 < d → n ≤ℤ m → IsAtMost (ratio n d) (ratio m d)
at_most-ratio n m d some h = (at_most-cross n m d d some some).1 (*ℤ-≤ℤ_right (pos d) n m (omega (arith, ints)) h)

pub at_most_from_ratio : (n m : ℤ) (d : ℕ) → 0 < d → IsAtMost (ratio n d) (ratio m d) → n ≤ℤ m
at_most_from_ratio n m d some h = ≤ℤ_from_*ℤ (pos d) n m (pos_above d some) ((at_most-cross n m d d some some).0 h)

pub below-ratio : (n m : ℤ) (d : ℕ) → 0 < d → n <ℤ m → IsBelow (ratio n d) (ratio m d)
below-ratio n m d some h = (below-cross n m d d some some).1 (*ℤ-<ℤ_right (pos d) n m (pos_above d some) h)

pub below_from_ratio : (n m : ℤ) (d : ℕ) → 0 < d → IsBelow (ratio n d) (ratio m d) → n <ℤ m
below_from_ratio n m d some h = <ℤ_from_*ℤ (pos d) n m (omega (arith, ints)) ((below-cross n m d d some some).0 h)

-- ---- from one to the next

pub at_most_trans : (a b c : Rational) → IsAtMost a b → IsAtMost b c → IsAtMost a c
at_most_trans = by_three _ (λ n m l d some h k. at_most-ratio n l d some
    (omega (arith, ints, at_most_from_ratio n m d some h, at_most_from_ratio m l d some k)))

pub below_at_most_trans : (a b c : Rational) → IsBelow a b → IsAtMost b c → IsBelow a c
below_at_most_trans = by_three _ (λ n m l d some h k. below-ratio n l d some
    (omega (arith, ints, below_from_ratio n m d some h, at_most_from_ratio m l d some k)))

pub at_most_below_trans : (a b c : Rational) → IsAtMost a b → IsBelow b c → IsBelow a c
at_most_below_trans = by_three _ (λ n m l d some h k. below-ratio n l d some
    (omega (arith, ints, at_most_from_ratio n m d some h, below_from_ratio m l d some k)))

-- ---- sums and differences

pub at_most_from_plus : (a b c : Rational) → IsAtMost (plus a c) (plus b c) → IsAtMost a b
at_most_from_plus = by_three _ (λ n m l d some h. at_most-ratio n m d some
    (omega (arith, ints, at_most_from_ratio (n +ℤ l) (m +ℤ l) d some (simp one_denominator at h))))

pub at_most-plus_plus : (a b c e : Rational) → IsAtMost a b → IsAtMost c e → IsAtMost (plus a c) (plus b e)
at_most-plus_plus = by_four _ (λ n m l k d some h g. simp one_denominator (at_most-ratio (n +ℤ l) (m +ℤ k) d some
    (omega (arith, ints, at_most_from_ratio n m d some h, at_most_from_ratio l k d some g))))

pub below-plus : (a b c : Rational) → IsBelow a b → IsBelow (plus a c) (plus b c)
below-plus =
    by_three _ (λ n m l d some h. simp one_denominator (below-ratio (n +ℤ l) (m +ℤ l) d some (omega (arith, ints, below_from_ratio n m d some h))))

-- a lesser value less a greater one
pub at_most-minus_minus : (a b c e : Rational) → IsAtMost a b → IsAtMost c e → IsAtMost (minus a e) (minus b c)
at_most-minus_minus = by_four _ (λ n m l k d some h g. simp one_denominator (at_most-ratio (n -ℤ k) (m -ℤ l) d some
    (omega (arith, ints, at_most_from_ratio n m d some h, at_most_from_ratio l k d some g))))

-- a is at most b less c where a and c together are at most b
pub at_most-minus_right : (a b c : Rational) → IsAtMost (plus a c) b → IsAtMost a (minus b c)
at_most-minus_right = by_three _ (λ n m l d some h. simp one_denominator (at_most-ratio n (m -ℤ l) d some
    (omega (arith, ints, at_most_from_ratio (n +ℤ l) m d some (simp one_denominator at h)))))

pub at_most_from_minus_right : (a b c : Rational) → IsAtMost a (minus b c) → IsAtMost (plus a c) b
at_most_from_minus_right = by_three _ (λ n m l d some h. simp one_denominator (at_most-ratio (n +ℤ l) m d some
    (omega (arith, ints, at_most_from_ratio n (m -ℤ l) d some (simp one_denominator at h)))))

-- what is taken away turns the order
pub at_most_from_minus_turned : (a b c : Rational) → IsAtMost (minus c b) (minus c a) → IsAtMost a b
at_most_from_minus_turned = by_three _ (λ n m l d some h. at_most-ratio n m d some
    (omega (arith, ints, at_most_from_ratio (l -ℤ m) (l -ℤ n) d some (simp one_denominator at h))))

pub at_most-minus_swap : (h c x y : Rational) → IsAtMost (minus y x) (minus h c) → IsAtMost (minus c x) (minus h y)
at_most-minus_swap = by_four _ (λ n m l k d some h. simp one_denominator (at_most-ratio (m -ℤ l) (n -ℤ k) d some
    (omega (arith, ints, at_most_from_ratio (k -ℤ l) (n -ℤ m) d some (simp one_denominator at h)))))

-- ---- against 0

-- a rational is above 0 where its numerator is
pub positive-is : (a : Rational) → pos 0 <ℤ a.num → IsBelow rational_zero a
positive-is a h = record { cross = omega (arith, ints, h) }

pub positive_num : (a : Rational) → IsBelow rational_zero a → pos 0 <ℤ a.num
positive_num a h = let less = h.cross in omega (arith, ints)

pub is_below-zero : (a : Rational) → is_below rational_zero a ≡ int_lt (pos 0) a.num
is_below-zero a = same_from_decides (is_below rational_zero a) (int_lt (pos 0) a.num) (Decides-is_below rational_zero a)
    (λ e. positive-is a (omega (arith, ints)), λ h. let less = positive_num a h in grind (arith, ints))

-- 0 as a ratio over any denominator
pub not_negative-ratio : (n : ℤ) (d : ℕ) → 0 < d → pos 0 ≤ℤ n → IsAtMost rational_zero (ratio n d)
not_negative-ratio n d some h = subst (λ x. IsAtMost x (ratio n d)) (ratio-zero d) (at_most-ratio (pos 0) n d some h)

pub not_negative_from_ratio : (n : ℤ) (d : ℕ) → 0 < d → IsAtMost rational_zero (ratio n d) → pos 0 ≤ℤ n
not_negative_from_ratio n d some h =
    at_most_from_ratio (pos 0) n d some (subst (λ x. IsAtMost x (ratio n d)) (sym (ratio-zero d)) h)

pub positive-ratio : (n : ℤ) (d : ℕ) → 0 < d → pos 0 <ℤ n → IsBelow rational_zero (ratio n d)
positive-ratio n d some h = subst (λ x. IsBelow x (ratio n d)) (ratio-zero d) (below-ratio (pos 0) n d some h)

pub positive_from_ratio : (n : ℤ) (d : ℕ) → 0 < d → IsBelow rational_zero (ratio n d) → pos 0 <ℤ n
positive_from_ratio n d some h =
    below_from_ratio (pos 0) n d some (subst (λ x. IsBelow x (ratio n d)) (sym (ratio-zero d)) h)

pub positive-nonzero : (a : Rational) → IsBelow rational_zero a → a ≢ rational_zero
positive-nonzero a some none = below_not_same rational_zero a some (sym none)

-- a difference is not negative exactly where it goes down
pub not_negative-minus : (a b : Rational) → IsAtMost a b → IsAtMost rational_zero (minus b a)
not_negative-minus =
    by_two _ (λ n m d some h. simp one_denominator (not_negative-ratio (m -ℤ n) d some (omega (arith, ints, at_most_from_ratio n m d some h))))

pub at_most_from_not_negative : (a b : Rational) → IsAtMost rational_zero (minus b a) → IsAtMost a b
at_most_from_not_negative = by_two _ (λ n m d some h. at_most-ratio n m d some
    (omega (arith, ints, not_negative_from_ratio (m -ℤ n) d some (simp one_denominator at h))))

pub positive-minus : (a b : Rational) → IsBelow a b → IsBelow rational_zero (minus b a)
positive-minus =
    by_two _ (λ n m d some h. simp one_denominator (positive-ratio (m -ℤ n) d some (omega (arith, ints, below_from_ratio n m d some h))))

pub below_from_positive : (a b : Rational) → IsBelow rational_zero (minus b a) → IsBelow a b
below_from_positive =
    by_two _ (λ n m d some h. below-ratio n m d some (omega (arith, ints, positive_from_ratio (m -ℤ n) d some (simp one_denominator at h))))

pub not_negative-plus : (a b : Rational) → IsAtMost rational_zero a → IsAtMost rational_zero b
    → IsAtMost rational_zero (plus a b)
not_negative-plus = by_two _ (λ n m d some h k. simp one_denominator (not_negative-ratio (n +ℤ m) d some
    (omega (arith, ints, not_negative_from_ratio n d some h, not_negative_from_ratio m d some k))))

pub positive-plus : (a b : Rational) → IsBelow rational_zero a → IsAtMost rational_zero b
    → IsBelow rational_zero (plus a b)
positive-plus = by_two _ (λ n m d some h k. simp one_denominator (positive-ratio (n +ℤ m) d some
    (omega (arith, ints, positive_from_ratio n d some h, not_negative_from_ratio m d some k))))

-- what is added, where it is not negative
pub at_most-plus_right : (a b : Rational) → IsAtMost rational_zero b → IsAtMost a (plus a b)
at_most-plus_right =
    by_two _ (λ n m d some h. simp one_denominator (at_most-ratio n (n +ℤ m) d some (omega (arith, ints, not_negative_from_ratio m d some h))))

pub at_most-plus_left : (a b : Rational) → IsAtMost rational_zero a → IsAtMost b (plus a b)
at_most-plus_left =
    by_two _ (λ n m d some h. simp one_denominator (at_most-ratio m (n +ℤ m) d some (omega (arith, ints, not_negative_from_ratio n d some h))))

-- ---- products and quotients

-- a factor that is not negative keeps the order
pub at_most-times : (a b c : Rational) → IsAtMost rational_zero c → IsAtMost a b → IsAtMost (times a c) (times b c)
at_most-times = by_three _ (λ n m l d some h k. let square = mul-pos some some in simp times-ratio
    (at_most-ratio (n *ℤ l) (m *ℤ l) (d * d) square (*ℤ-≤ℤ_right l n m (not_negative_from_ratio l d some h) (at_most_from_ratio n m d some k))))

pub at_most-times_left : (c a b : Rational) → IsAtMost rational_zero c → IsAtMost a b → IsAtMost (times c a) (times c b)
at_most-times_left c a b some h = subst₂ IsAtMost (times_comm a c) (times_comm b c) (at_most-times a b c some h)

pub not_negative-times : (a b : Rational) → IsAtMost rational_zero a → IsAtMost rational_zero b
    → IsAtMost rational_zero (times a b)
not_negative-times a b one two =
    subst (λ x. IsAtMost x (times a b)) (zero-times b) (at_most-times rational_zero a b two one)

-- a factor that is not above 0 turns the order
pub times-turned : (f h x : Rational) → IsAtMost f h → IsAtMost x rational_zero → IsAtMost (times h x) (times f x)
times-turned f h x more below = at_most_from_minus_turned (times h x) (times f x) rational_zero
    (subst₂ IsAtMost (away f) (away h) (at_most-times f h (minus rational_zero x) (not_negative-minus x rational_zero below) more))
  where
    away : (g : Rational) → times g (minus rational_zero x) ≡ minus rational_zero (times g x)
    away g = times-minus g rational_zero x ∙ ap (λ y. minus y (times g x)) (times-zero g)

-- what is above 0 by a factor that is not negative
pub positive_factor : (f x : Rational) → IsAtMost rational_zero f → IsBelow rational_zero (times f x)
    → IsBelow rational_zero x
positive_factor f x some h = below_from_not_at_most rational_zero x
    (λ none. below_not_at_most rational_zero (times f x) h (subst (IsAtMost (times f x)) (times-zero f) (at_most-times_left f x rational_zero some none)))

-- ---- against whole numbers

pub at_most-whole : (n m : ℤ) → n ≤ℤ m → IsAtMost (whole n) (whole m)
at_most-whole n m h = rw (← ratio-one n, ← ratio-one m) (at_most-ratio n m 1 (omega arith) h)

pub below-whole : (n m : ℤ) → n <ℤ m → IsBelow (whole n) (whole m)
below-whole n m h = rw (← ratio-one n, ← ratio-one m) (below-ratio n m 1 (omega arith) h)

pub at_most-ratio_whole : (n m : ℤ) (d : ℕ) → 0 < d → n ≤ℤ (m *ℤ pos d) → IsAtMost (ratio n d) (whole m)
at_most-ratio_whole n m d some h = rw (← ratio-multiple m d some) (at_most-ratio n (m *ℤ pos d) d some h)

pub at_most_from_ratio_whole : (n m : ℤ) (d : ℕ) → 0 < d → IsAtMost (ratio n d) (whole m) → n ≤ℤ (m *ℤ pos d)
at_most_from_ratio_whole n m d some h = at_most_from_ratio n (m *ℤ pos d) d some (rw (← ratio-multiple m d some) at h)

pub at_most-whole_ratio : (n m : ℤ) (d : ℕ) → 0 < d → (n *ℤ pos d) ≤ℤ m → IsAtMost (whole n) (ratio m d)
at_most-whole_ratio n m d some h = rw (← ratio-multiple n d some) (at_most-ratio (n *ℤ pos d) m d some h)

pub at_most_from_whole_ratio : (n m : ℤ) (d : ℕ) → 0 < d → IsAtMost (whole n) (ratio m d) → (n *ℤ pos d) ≤ℤ m
at_most_from_whole_ratio n m d some h = at_most_from_ratio (n *ℤ pos d) m d some (rw (← ratio-multiple n d some) at h)
