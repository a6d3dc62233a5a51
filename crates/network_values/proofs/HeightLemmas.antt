-- The positive part of a number.
use Rattle.network_values.proofs.Words.{IsAtMost, IsBelow, Rational, at_most-times_left, at_most_antisymm, at_most_from_below, at_most_refl, at_most_trans}
use Rattle.network_values.proofs.Words.{below_or_at_most, is_below-ranks, not_negative-times, positive_part, rational_zero, times, times-zero}
use Rattle.std.proofs.Common.{arith, subst, sym, ⊎_elim, ◌∙◌, ◌≡◌}

-- of what is above 0 it is all, and of what is below 0 nothing
pub positive_part-above : (x : Rational) → IsAtMost rational_zero x → positive_part x ≡ x
unfolding positive_part
positive_part-above x above = grind (arith, is_below-ranks rational_zero x, at_most_antisymm rational_zero x above)

pub positive_part-below : (x : Rational) → IsAtMost x rational_zero → positive_part x ≡ rational_zero
unfolding positive_part
positive_part-below x below =
    grind (arith, is_below-ranks rational_zero x, at_most_antisymm x rational_zero below, at_most_from_below rational_zero x)

-- what holds of a number above 0, and of 0 for one that is not, holds of its positive part
pub positive_part-cases : (P : Rational → Type 0) (x : Rational) → (IsBelow rational_zero x → P x)
    → (IsAtMost x rational_zero → P rational_zero)
    → P (positive_part x)
positive_part-cases P x above below =
    ⊎_elim (λ more. subst P (sym (positive_part-above x (at_most_from_below rational_zero x more))) (above more))
    (λ less. subst P (sym (positive_part-below x less)) (below less)) (below_or_at_most rational_zero x)

pub not_negative-positive_part : (x : Rational) → IsAtMost rational_zero (positive_part x)
not_negative-positive_part x =
    positive_part-cases (IsAtMost rational_zero) x (at_most_from_below rational_zero x) (λ less. at_most_refl rational_zero)

-- it is the least number that is at least 0 and x
pub positive_part-least : (x y : Rational) → IsAtMost rational_zero y → IsAtMost x y → IsAtMost (positive_part x) y
positive_part-least x y some more = positive_part-cases (λ z. IsAtMost z y) x (λ above. more) (λ less. some)

pub at_most-positive_part : (x : Rational) → IsAtMost x (positive_part x)
at_most-positive_part x = positive_part-cases (IsAtMost x) x (λ above. at_most_refl x) (λ less. less)

pub positive_part-at_most : (x y : Rational) → IsAtMost x y → IsAtMost (positive_part x) (positive_part y)
positive_part-at_most x y more = positive_part-least x (positive_part y) (not_negative-positive_part y)
    (at_most_trans x y (positive_part y) more (at_most-positive_part y))

-- a factor that is not negative goes into it
pub times-positive_part : (f x : Rational) → IsAtMost rational_zero f
    → times f (positive_part x) ≡ positive_part (times f x)
times-positive_part f x some = positive_part-cases (λ y. times f y ≡ positive_part (times f x)) x
    (λ above. sym (positive_part-above (times f x) (not_negative-times f x some (at_most_from_below rational_zero x above))))
    (λ less. times-zero f ∙ sym (positive_part-below (times f x) (subst (IsAtMost (times f x)) (times-zero f)
    (at_most-times_left f x rational_zero some less))))
