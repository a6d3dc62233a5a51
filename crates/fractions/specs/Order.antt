-- The order of rationals is total, and its ties are equal.
use Rattle.std.specs.Prelude.{◌≡◌, ℕ, ℤ, pos, ◌*ℤ◌, ◌<◌, ◌==◌}
use Rattle.std.proofs.Common.{◌∙◌, sym, ap, subst}
use Rattle.std.specs.Bool.{Decides}
use Rattle.std.proofs.lemmas.Bool.Decides.{Decides-and, Decides-eqb, Decides-int_eq, Decides-like, same_from_decides}
use Rattle.std.proofs.lemmas.Cmp.{int_cmp_total}
use Rattle.std.specs.Cmp.{Equal-is, IsTotalOrder, int_cmp_is, int_ranks}
use Rattle.std.specs.Ordering.{MatchOrdering, int_cmp, int_eq, is_eq}
use Rattle.std.specs.declared.cmp.Ordering.{Ordering}
use Rattle.std.specs.declared.cmp.Ordering.TheVariants.{Less, Equal, Greater}
use Rattle.sums.proofs.ProductLemmas.{*ℤ-<ℤ_right, *ℤ_swap}
use Rattle.fractions.specs.Integers.{pos_above}
use Rattle.fractions.specs.LowestForms.{same_from_fields, same_from_value}
use Rattle.fractions.specs.Rationals.{IsBelow, Rational, rational_cmp, rational_eq}

ranked : (r : Ordering) (P P' Q Q' R R' : Type 0) → (P → P') → (Q → Q') → (R → R') → MatchOrdering r P Q R
    → MatchOrdering r P' Q' R'
ranked Less P P' Q Q' R R' f g h m = f m
ranked Equal P P' Q Q' R R' f g h m = g m
ranked Greater P P' Q Q' R R' f g h m = h m

-- a common factor above 0 changes no order
pub cmp-scale : (a b : ℤ) (k : ℕ) → 0 < k → int_cmp (a *ℤ pos k) (b *ℤ pos k) ≡ int_cmp a b
cmp-scale a b k some =
    let above = pos_above k some in
    sym (int_cmp_is (a *ℤ pos k) (b *ℤ pos k) (int_cmp a b)
    (ranked (int_cmp a b) _ _ _ _ _ _ (*ℤ-<ℤ_right (pos k) a b above) (λ e. ap (λ z. z *ℤ pos k) e) (*ℤ-<ℤ_right (pos k) b a above) (int_ranks a b)))

-- how two rationals compare
pub rational_ranks : (a b : Rational) → MatchOrdering (rational_cmp a b) (IsBelow a b) (a ≡ b) (IsBelow b a)
unfolding rational_cmp
rational_ranks a b =
    ranked (rational_cmp a b) _ _ _ _ _ _ (λ h. record { cross = h }) (same_from_value a b) (λ h. record { cross = h })
    (int_ranks (a.num *ℤ pos b.den) (b.num *ℤ pos a.den))

pub same_from_cmp : (a b : Rational) → rational_cmp a b ≡ Equal → a ≡ b
same_from_cmp a b e = subst (λ r. MatchOrdering r (IsBelow a b) (a ≡ b) (IsBelow b a)) e (rational_ranks a b)

pub cmp_from_same : (a b : Rational) → a ≡ b → rational_cmp a b ≡ Equal
unfolding rational_cmp
cmp_from_same a b e =
    sym (int_cmp_is (a.num *ℤ pos b.den) (b.num *ℤ pos a.den) Equal (ap (λ r. a.num *ℤ pos r.den) (sym e) ∙ ap (λ r. r.num *ℤ pos a.den) e))

pub rational_cmp_total : IsTotalOrder rational_cmp
unfolding rational_cmp
rational_cmp_total = record {
  antisymm = λ a b. int_cmp_total.antisymm (a.num *ℤ pos b.den) (b.num *ℤ pos a.den);
  trans = transitive;
  congr = λ a b c e. ap (λ r. rational_cmp r c) (same_from_cmp a b e);
}
  where
    transitive : (a b c : Rational) → rational_cmp a b ≡ Less → rational_cmp b c ≡ Less → rational_cmp a c ≡ Less
    transitive a b c one two =
        let first =
        ap (λ z. int_cmp (a.num *ℤ pos b.den *ℤ pos c.den) z) (*ℤ_swap b.num (pos c.den) (pos a.den))
        ∙ cmp-scale (a.num *ℤ pos b.den) (b.num *ℤ pos a.den) c.den c.positive ∙ one in
        let second = cmp-scale (b.num *ℤ pos c.den) (c.num *ℤ pos b.den) a.den a.positive ∙ two in
        let both =
        int_cmp_total.trans (a.num *ℤ pos b.den *ℤ pos c.den) (b.num *ℤ pos c.den *ℤ pos a.den) (c.num *ℤ pos b.den *ℤ pos a.den) first second in
        sym (cmp-scale (a.num *ℤ pos c.den) (c.num *ℤ pos a.den) b.den b.positive)
        ∙ ap (λ z. int_cmp z (c.num *ℤ pos a.den *ℤ pos b.den)) (*ℤ_swap a.num (pos c.den) (pos b.den))
        ∙ ap (λ z. int_cmp (a.num *ℤ pos b.den *ℤ pos c.den) z) (*ℤ_swap c.num (pos a.den) (pos b.den)) ∙ both

pub Decides-rational_eq : (a b : Rational) → Decides (rational_eq a b) (a ≡ b)
Decides-rational_eq a b =
    Decides-like (rational_eq a b) (λ (num, den). same_from_fields a b num den) (λ same. (ap (λ r. r.num) same, ap (λ r. r.den) same))
    (Decides-and (int_eq a.num b.num) (a.den == b.den) (Decides-int_eq a.num b.num) (Decides-eqb a.den b.den))

-- a tie is an equality
pub rational_cmp_ties : (a b : Rational) → rational_eq a b ≡ is_eq (rational_cmp a b)
rational_cmp_ties a b =
    same_from_decides (rational_eq a b) (is_eq (rational_cmp a b)) (Decides-rational_eq a b)
    (λ e. same_from_cmp a b ((Equal-is (rational_cmp a b)).0 e), λ same. (Equal-is (rational_cmp a b)).1 (cmp_from_same a b same))
