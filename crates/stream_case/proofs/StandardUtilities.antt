-- The utilities of a standard case: one of each side.
use Rattle.std.proofs.Common.{List, Some, [], ap, refl, subst, suc, sym, zero, ℕ, ⊎_elim, ◌∙◌, ◌∷◌, ◌≡◌, ◌≢◌}
use Rattle.stream_case.proofs.Words.{Case, Cold, Hot, IsStandard, Side, Utility, none-some, same_Some, slice_get, standard_utility}

pub standard_side : (side : Side) (c : Case) → (standard_utility side c).side ≡ side
standard_side Hot c = refl
standard_side Cold c = refl

-- the utilities of a standard case stand in one of two orders
pub in_order : (c : Case) → IsStandard c → (P : List Utility → Type 0)
    → P (standard_utility Hot c ∷ standard_utility Cold c ∷ [])
    → P (standard_utility Cold c ∷ standard_utility Hot c ∷ []) → P c.utilities
in_order c standard P h k = ⊎_elim (λ e. subst P (sym e) h) (λ e. subst P (sym e) k) standard.utilities

-- what holds of two holds of each in their list
pub of_two : {X : Type 0} (P : X → Type 0) (a b : X) → P a → P b → (i : ℕ) (x : X)
    → slice_get (a ∷ b ∷ []) i ≡ Some x → P x
of_two P a b h k zero x at = subst P (same_Some a x at) h
of_two P a b h k (suc zero) x at = subst P (same_Some b x at) k
of_two P a b h k (suc (suc i)) x at = absurd (none-some x at)

-- each is the standard one of its side
pub own_utility : (c : Case) → IsStandard c → (i : ℕ) (u : Utility) → slice_get c.utilities i ≡ Some u
    → u ≡ standard_utility u.side c
own_utility c standard =
    in_order c standard (λ us. (i : ℕ) (u : Utility) → slice_get us i ≡ Some u → u ≡ standard_utility u.side c)
    (of_two (λ u. u ≡ standard_utility u.side c) (standard_utility Hot c) (standard_utility Cold c) refl refl)
    (of_two (λ u. u ≡ standard_utility u.side c) (standard_utility Cold c) (standard_utility Hot c) refl refl)

one_of_two : (a b : Utility) → a.side ≢ b.side → (i j : ℕ) (u v : Utility)
    → slice_get (a ∷ b ∷ []) i ≡ Some u → slice_get (a ∷ b ∷ []) j ≡ Some v
    → u.side ≡ v.side → i ≡ j
one_of_two a b differ zero zero u v at other same = refl
one_of_two a b differ zero (suc zero) u v at other same =
    absurd (differ (ap (λ w. w.side) (same_Some a u at) ∙ same ∙ sym (ap (λ w. w.side) (same_Some b v other))))
one_of_two a b differ (suc zero) zero u v at other same =
    absurd (differ (ap (λ w. w.side) (same_Some a v other) ∙ sym same ∙ sym (ap (λ w. w.side) (same_Some b u at))))
one_of_two a b differ (suc zero) (suc zero) u v at other same = refl
one_of_two a b differ (suc (suc i)) j u v at other same = absurd (none-some u at)
one_of_two a b differ zero (suc (suc j)) u v at other same = absurd (none-some v other)
one_of_two a b differ (suc zero) (suc (suc j)) u v at other same = absurd (none-some v other)

-- and each side has one
pub some_utility : (c : Case) → IsStandard c → (side : Side)
    → (i : ℕ) × (slice_get c.utilities i ≡ Some (standard_utility side c))
some_utility c standard Hot =
    in_order c standard (λ us. (i : ℕ) × (slice_get us i ≡ Some (standard_utility Hot c))) (0, refl) (1, refl)
some_utility c standard Cold =
    in_order c standard (λ us. (i : ℕ) × (slice_get us i ≡ Some (standard_utility Cold c))) (1, refl) (0, refl)

pub one_utility : (c : Case) → IsStandard c → (i j : ℕ) (u v : Utility) → slice_get c.utilities i ≡ Some u
    → slice_get c.utilities j ≡ Some v → u.side ≡ v.side
    → i ≡ j
one_utility c standard =
    in_order c standard (λ us. (i j : ℕ) (u v : Utility) → slice_get us i ≡ Some u → slice_get us j ≡ Some v → u.side ≡ v.side → i ≡ j)
    (one_of_two (standard_utility Hot c) (standard_utility Cold c) (λ e. cc)) (one_of_two (standard_utility Cold c) (standard_utility Hot c) (λ e. cc))
