-- Ratios: two are one exactly where the cross products are equal; their order, sums, differences and products.
use Rattle.fractions.proofs.Words.{*ℤ-interchange, *ℤ_assoc, *ℤ_cancel_right, *ℤ_swap, +ℤ-*ℤ, -ℤ-*ℤ, Rational, SameValue, cmp-scale, minus, mul-pos, mul_comm}
use Rattle.fractions.proofs.Words.{plus, pos_above, ratio, ratio-self, ratio-value, rational_cmp, rational_zero, same_from_value, subst₂, times, whole}
use Rattle.std.proofs.Common.{ap, ap₂, arith, int_cmp, pos, refl, subst, suc, sym, zero, ℕ, ℤ, ◌*ℤ◌, ◌*◌, ◌+ℤ◌, ◌-ℤ◌, ◌<◌, ◌∙◌, ◌≡◌}

-- ---- equality

same_value-trans : (m n l : ℤ) (e d c : ℕ) → 0 < d → SameValue m e n d → SameValue n d l c → SameValue m e l c
same_value-trans m n l e d c some one two = *ℤ_cancel_right (pos d) (m *ℤ pos c) (l *ℤ pos e) (pos_above d some)
    (*ℤ_swap m (pos c) (pos d) ∙ ap (λ z. z *ℤ pos c) one ∙ *ℤ_swap n (pos e) (pos c) ∙ ap (λ z. z *ℤ pos e) two ∙ *ℤ_swap l (pos d) (pos e))

-- equal cross products make equal ratios
pub ratio-same : (n m : ℤ) (d e : ℕ) → 0 < d → 0 < e → SameValue n d m e → ratio n d ≡ ratio m e
ratio-same n m d e hd he same =
    let a = ratio n d in
    let b = ratio m e in
    let left = same_value-trans a.num n m a.den d e hd (ratio-value n d hd) same in
    same_from_value a b (same_value-trans a.num m b.num a.den e b.den he left (sym (ratio-value m e he)))

-- and the other way round
pub same_from_ratio : (n m : ℤ) (d e : ℕ) → 0 < d → 0 < e → ratio n d ≡ ratio m e → SameValue n d m e
same_from_ratio n m d e hd he same =
    let a = ratio n d in
    same_value-trans n a.num m d a.den e a.positive (sym (ratio-value n d hd)) (rw same (ratio-value m e he))

-- a common factor is taken away
pub ratio-cancel : (n : ℤ) (d k : ℕ) → 0 < d → 0 < k → ratio (n *ℤ pos k) (d * k) ≡ ratio n d
ratio-cancel n d k hd hk =
    ratio-same (n *ℤ pos k) n (d * k) d (mul-pos hd hk) hd (*ℤ_assoc n (pos k) (pos d) ∙ ap (λ j. n *ℤ pos j) (mul_comm k d))

pub ratio-one : (n : ℤ) → ratio n 1 ≡ whole n
ratio-one n = ratio-self (whole n)

pub ratio-by_zero : (n : ℤ) → ratio n 0 ≡ rational_zero
unfolding ratio
ratio-by_zero n = refl

pub ratio-zero : (d : ℕ) → ratio (pos 0) d ≡ rational_zero
ratio-zero zero = ratio-by_zero (pos 0)
ratio-zero (suc d) =
    ratio-same (pos 0) (pos 0) (suc d) 1 (omega arith) (omega arith) (let e : 0 * 1 ≡ 0 * suc d = omega arith in ap pos e)
    ∙ ratio-one (pos 0)

-- ---- what is made of equal values is equal

-- both sides of an equation of values, times another number over another one
crossed : (n n' : ℤ) (d d' e e' : ℕ) → SameValue n d n' d' → n *ℤ pos e *ℤ pos (d' * e') ≡ n' *ℤ pos e' *ℤ pos (d * e)
crossed n n' d d' e e' same =
    *ℤ-interchange n (pos e) (pos d') (pos e') ∙ ap₂ ◌*ℤ◌ same (ap pos (mul_comm e e'))
    ∙ *ℤ-interchange n' (pos d) (pos e') (pos e)

-- the same steps for sums and for differences
module _ (op : ℤ → ℤ → ℤ) (spread : (x y z : ℤ) → op x y *ℤ z ≡ op (x *ℤ z) (y *ℤ z)) where
  joined-ratio : (n m : ℤ) (d e : ℕ) → 0 < d → 0 < e
      → ratio (op ((ratio n d).num *ℤ pos (ratio m e).den) ((ratio m e).num *ℤ pos (ratio n d).den)) ((ratio n d).den * (ratio m e).den)
      ≡ ratio (op (n *ℤ pos e) (m *ℤ pos d)) (d * e)
  joined-ratio n m d e hd he =
      let a = ratio n d in
      let b = ratio m e in
      let first = crossed a.num n a.den d b.den e (ratio-value n d hd) in
      let second = crossed b.num m b.den e a.den d (ratio-value m e he) in
      ratio-same _ _ (a.den * b.den) (d * e) (mul-pos a.positive b.positive) (mul-pos hd he)
      (spread _ _ _ ∙ ap₂ op first (ap (λ k. b.num *ℤ pos a.den *ℤ pos k) (mul_comm d e) ∙ second ∙ ap (λ k. m *ℤ pos d *ℤ pos k) (mul_comm b.den a.den))
      ∙ sym (spread _ _ _))

  joined-same_den : (n m : ℤ) (d : ℕ) → 0 < d → ratio (op (n *ℤ pos d) (m *ℤ pos d)) (d * d) ≡ ratio (op n m) d
  joined-same_den n m d some =
      ap (λ z. ratio z (d * d)) (sym (spread n m (pos d))) ∙ ratio-cancel (op n m) d d some some

pub plus-ratio : (n m : ℤ) (d e : ℕ) → 0 < d → 0 < e
    → plus (ratio n d) (ratio m e) ≡ ratio (n *ℤ pos e +ℤ m *ℤ pos d) (d * e)
unfolding plus
plus-ratio = joined-ratio ◌+ℤ◌ +ℤ-*ℤ

pub minus-ratio : (n m : ℤ) (d e : ℕ) → 0 < d → 0 < e
    → minus (ratio n d) (ratio m e) ≡ ratio (n *ℤ pos e -ℤ m *ℤ pos d) (d * e)
unfolding minus
minus-ratio = joined-ratio ◌-ℤ◌ -ℤ-*ℤ

-- over one denominator, which may be 0 here too
pub plus-ratio_same_den : (n m : ℤ) (d : ℕ) → plus (ratio n d) (ratio m d) ≡ ratio (n +ℤ m) d
plus-ratio_same_den n m zero =
    rw (ratio-by_zero n, ratio-by_zero m, ratio-by_zero (n +ℤ m), ← ratio-one (pos 0)) (plus-ratio (pos 0) (pos 0) 1 1 (omega arith) (omega arith))
plus-ratio_same_den n m (suc d) =
    let some : 0 < suc d = omega arith in
    plus-ratio n m (suc d) (suc d) some some ∙ joined-same_den ◌+ℤ◌ +ℤ-*ℤ n m (suc d) some

pub minus-ratio_same_den : (n m : ℤ) (d : ℕ) → minus (ratio n d) (ratio m d) ≡ ratio (n -ℤ m) d
minus-ratio_same_den n m zero =
    rw (ratio-by_zero n, ratio-by_zero m, ratio-by_zero (n -ℤ m), ← ratio-one (pos 0)) (minus-ratio (pos 0) (pos 0) 1 1 (omega arith) (omega arith))
minus-ratio_same_den n m (suc d) =
    let some : 0 < suc d = omega arith in
    minus-ratio n m (suc d) (suc d) some some ∙ joined-same_den ◌-ℤ◌ -ℤ-*ℤ n m (suc d) some

-- sums and differences over one denominator, for `simp`
pub ruleset one_denominator = (plus-ratio_same_den, minus-ratio_same_den)

pub times-ratio : (n m : ℤ) (d e : ℕ) → 0 < d → 0 < e → times (ratio n d) (ratio m e) ≡ ratio (n *ℤ m) (d * e)
unfolding times
times-ratio n m d e hd he =
    let a = ratio n d in
    let b = ratio m e in
    ratio-same (a.num *ℤ b.num) (n *ℤ m) (a.den * b.den) (d * e) (mul-pos a.positive b.positive) (mul-pos hd he)
    (*ℤ-interchange a.num b.num (pos d) (pos e) ∙ ap₂ ◌*ℤ◌ (ratio-value n d hd) (ratio-value m e he) ∙ *ℤ-interchange n (pos a.den) m (pos b.den))

-- the order is that of the cross products
pub rational_cmp-ratio : (n m : ℤ) (d e : ℕ) → 0 < d → 0 < e
    → rational_cmp (ratio n d) (ratio m e) ≡ int_cmp (n *ℤ pos e) (m *ℤ pos d)
unfolding rational_cmp
rational_cmp-ratio n m d e hd he =
    let a = ratio n d in
    let b = ratio m e in
    let first = crossed a.num n a.den d b.den e (ratio-value n d hd) in
    let second = crossed b.num m b.den e a.den d (ratio-value m e he) in
    sym (cmp-scale (a.num *ℤ pos b.den) (b.num *ℤ pos a.den) (d * e) (mul-pos hd he))
    ∙ ap₂ int_cmp first (ap (λ k. b.num *ℤ pos a.den *ℤ pos k) (mul_comm d e) ∙ second ∙ ap (λ k. m *ℤ pos d *ℤ pos k) (mul_comm b.den a.den))
    ∙ cmp-scale (n *ℤ pos e) (m *ℤ pos d) (a.den * b.den) (mul-pos a.positive b.positive)

-- ---- what holds of ratios over any one denominator holds of all rationals

pub by_one : (P : Rational → Type 0) → ((n : ℤ) (d : ℕ) → 0 < d → P (ratio n d)) → (a : Rational) → P a
by_one P h a = subst P (ratio-self a) (h a.num a.den a.positive)

over_all : (a : Rational) (rest d : ℕ) → 0 < rest → a.den * rest ≡ d → ratio (a.num *ℤ pos rest) d ≡ a
over_all a rest d some is =
    ap (ratio (a.num *ℤ pos rest)) (sym is) ∙ ratio-cancel a.num a.den rest a.positive some ∙ ratio-self a

pub by_four : (P : Rational → Rational → Rational → Rational → Type 0)
    → ((n m l k : ℤ) (d : ℕ) → 0 < d → P (ratio n d) (ratio m d) (ratio l d) (ratio k d))
    → (a b c e : Rational) → P a b c e
by_four P h a b c e =
    let ab = mul-pos a.positive b.positive in
    let ce = mul-pos c.positive e.positive in
    let d = a.den * b.den * (c.den * e.den) in
    subst₂ (λ x y. P x y c e) (over_all a (b.den * (c.den * e.den)) d (mul-pos b.positive ce) (omega arith))
    (over_all b (a.den * (c.den * e.den)) d (mul-pos a.positive ce) (omega arith))
    (subst₂ (P _ _) (over_all c (a.den * b.den * e.den) d (mul-pos ab e.positive) (omega arith))
    (over_all e (a.den * b.den * c.den) d (mul-pos ab c.positive) (omega arith)) (h _ _ _ _ d (mul-pos ab ce)))

pub by_three : (P : Rational → Rational → Rational → Type 0)
    → ((n m l : ℤ) (d : ℕ) → 0 < d → P (ratio n d) (ratio m d) (ratio l d)) → (a b c : Rational)
    → P a b c
by_three P h a b c = by_four (λ x y z w. P x y z) (λ n m l k d some. h n m l d some) a b c c

pub by_two : (P : Rational → Rational → Type 0) → ((n m : ℤ) (d : ℕ) → 0 < d → P (ratio n d) (ratio m d))
    → (a b : Rational) → P a b
by_two P h a b = by_four (λ x y z w. P x y) (λ n m l k d some. h n m d some) a b b b
