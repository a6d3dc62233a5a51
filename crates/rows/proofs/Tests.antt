-- What the tests of numbers and of lists decide.
use Rattle.rows.proofs.Words.{Decides-and, Decides-by_and, Decides-like, Decides-ltb, Decides-not, Decides-or, IsBetween, IsContribution, MOST_CONTRIBUTION}
use Rattle.rows.proofs.Words.{bytes_decides, bytes_eq, int_le, ints, is_own_contribution, is_within, list_any}
use Rattle.std.proofs.Common.{All, Bool, Decides, IfSome, List, None, Option, Some, arith, false, inl, inr, nat_lt, not, pos, refl, true, ℕ, ℤ, ◌&&◌, ◌<◌, ◌||◌}
use Rattle.std.proofs.Common.{◌≡◌, ◌≢◌, ◌≤ℤ◌}

pub Decides-int_le : (a b : ℤ) → Decides (int_le a b) (a ≤ℤ b)
Decides-int_le a b = (λ e. grind (arith, ints, e), λ h. grind (arith, ints, h))

pub Decides-is_within : (low high n : ℤ) → Decides (is_within low high n) (IsBetween low high n)
unfolding is_within
Decides-is_within low high n =
    Decides-like _ (λ (from, upto). record { from = from; upto = upto }) (λ h. (h.from, h.upto))
    (Decides-and _ _ (Decides-int_le low n) (Decides-int_le n high))

pub passed-within : (low high n : ℤ) → is_within low high n ≡ true → IsBetween low high n
passed-within low high n = (Decides-is_within low high n).0

pub within-passes : (low high n : ℤ) → IsBetween low high n → is_within low high n ≡ true
within-passes low high n = (Decides-is_within low high n).1

pub Decides-is_own_contribution : (o : Option ℤ) → Decides (is_own_contribution o) (IfSome o IsContribution)
unfolding is_own_contribution
Decides-is_own_contribution None = (λ e. tt, λ h. refl)
Decides-is_own_contribution (Some c) = Decides-is_within (pos 0) MOST_CONTRIBUTION c

-- a count with room for one more
pub passed-room : (n most : ℕ) → nat_lt n most ≡ true → n < most
passed-room n most = (Decides-ltb n most).0

pub room-passes : (n most : ℕ) → n < most → nat_lt n most ≡ true
room-passes n most = (Decides-ltb n most).1

-- a text that is neither of two
pub Decides-neither : (text a b : List ℕ) → Decides (not (bytes_eq text a || bytes_eq text b)) ((text ≢ a) × (text ≢ b))
Decides-neither text a b =
    Decides-like _ (λ neither. (λ e. neither (inl e), λ e. neither (inr e))) (λ (first, second). elim [ inl e ↦ first e | inr e ↦ second e ])
    (Decides-not _ (Decides-or _ _ (bytes_decides text a) (bytes_decides text b)))

-- no item passes
pub Decides-none : {X : Type 0} (p : X → Bool) (P : X → Type 0) → ((x : X) → Decides (p x) (P x)) → (xs : List X)
    → Decides (not (list_any p xs)) (All (λ x. ¬ (P x)) xs)
Decides-none p P each xs =
    Decides-by_and (λ x. not (p x)) (λ x. ¬ (P x)) (λ ys. not (list_any p ys)) (λ x. Decides-not (p x) (each x)) refl
    (λ x ys. elim (p x) as (λ b. not (b || list_any p ys) ≡ (not b && not (list_any p ys))) [ true ↦ refl | false ↦ refl ]) xs
