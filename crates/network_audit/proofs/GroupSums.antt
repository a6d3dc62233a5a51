-- The sum of a utility whose duties come in groups, each over its own denominator and with a whole sum.
use Rattle.network_audit.proofs.Words.{*ℤ_cancel_right, All-append, All-head, All-tail, IsFormed, Network, Place, Rational, Utility, duties_with}
use Rattle.network_audit.proofs.Words.{le_of_mul-le-mul_right, mul-le-mul, pos_above, ratio-multiple, ratio-one, rational_sum, rational_zero, same_from_ratio}
use Rattle.network_audit.proofs.Words.{sum_steps, unsigned_abs-mul, utility_items_at, whole}
use Rattle.network_audit.proofs.FormedLemmas.{AreFormed, formed-none}
use Rattle.network_audit.proofs.Sized.{IsSized, most_den, most_num, sized-plus, sized-whole}
use Rattle.network_audit.proofs.SumBounds.{sized-sum, sums_formed, with_range}
use Rattle.network_audit.proofs.SumSteps.{added, added-sum, steps-append}
use Rattle.std.proofs.Common.{All, List, [], ap, arith, length, pos, subst, sym, unsigned_abs, ℕ, ℤ, ◌*ℤ◌, ◌*◌, ◌+◌, ◌<◌, ◌∙◌, ◌∷◌, ◌≡◌, ◌≤◌}
pub use Rattle.network_audit.specs.Sized.{IsWholeGroup, count_of, numbers_of}
use Rattle.network_audit.specs.declared.findings.Place.TheVariants as place

-- ---- whole numbers over another denominator

over_any : (d m : ℕ) (a : Rational) → 0 < d → IsSized 1 m a → IsSized d m a
over_any d m a some sized =
    subst (IsSized d m) (sym (sized.is ∙ ratio-one sized.num)) (sized-whole d m sized.num some (omega arith))

over_one : (d m : ℕ) (n : ℤ) → 0 < d → IsSized d m (whole n) → IsSized 1 m (whole n)
over_one d m n some sized =
    let same : n *ℤ pos d ≡ sized.num = *ℤ_cancel_right (pos d) (n *ℤ pos d) sized.num (pos_above d some)
    (same_from_ratio (n *ℤ pos d) sized.num d d some some (ratio-multiple n d some ∙ sized.is)) in
    let small = sized.small in
    let product : unsigned_abs n * d ≤ m * d = omega (arith, unsigned_abs-mul n (pos d), ap unsigned_abs same, small) in
    sized-whole 1 m n (omega arith) (le_of_mul-le-mul_right product some)

-- ---- groups

module _ (den m : ℕ) (small : den ≤ most_den) where
  group-sized : (group : List Rational) → IsWholeGroup den m group → IsSized 1 (length group * m) (rational_sum group)
  group-sized group is =
      let sum = sized-sum is.over m is.some (omega (arith, small)) group is.each in
      subst (IsSized 1 (length group * m)) (sym is.is)
      (over_one is.over (length group * m) is.sum is.some (subst (IsSized is.over (length group * m)) is.is sum))

  pub groups_formed : (at : Place) (before k : ℕ) (total : Rational) (groups : List (List Rational))
      → (k + count_of groups * m) * den ≤ most_num
      → IsSized 1 k total → All (IsWholeGroup den m) groups → AreFormed (sum_steps at before total (numbers_of groups))
  groups_formed at before k total [] most sized each = formed-none
  groups_formed at before k total (group ∷ groups) most sized each =
      let is = All-head (IsWholeGroup den m) group groups each in
      let upto = is.upto in
      let here : (k + length group * m) * is.over ≤ (k + (length group + count_of groups) * m) * den
      = mul-le-mul (omega arith) upto in
      let later : (k + length group * m + count_of groups * m) * den ≤ most_num = omega (arith, most) in
      let next = subst (IsSized 1 (k + length group * m)) (sym (added-sum total group))
      (sized-plus 1 k (length group * m) total (rational_sum group) sized (group-sized group is)) in
      let first = sum_steps at before total group in
      let rest = sum_steps at (before + length group) (added total group) (numbers_of groups) in
      subst AreFormed (sym (steps-append at before total group (numbers_of groups)))
      (All-append IsFormed _ _ (sums_formed is.over m is.some (omega (arith, upto, small)) at before k total group (omega (arith, here, most))
      (over_any is.over k total is.some sized) is.each)
      (groups_formed at (before + length group) (k + length group * m) (added total group) groups later next (All-tail (IsWholeGroup den m) group groups each)))

  -- the sum of the duties of a utility
  pub grouped_utility_formed : (network : Network) (index : ℕ) (u : Utility) (groups : List (List Rational))
      → duties_with network index ≡ numbers_of groups
      → (count_of groups * m) * den ≤ most_num → All (IsWholeGroup den m) groups
      → AreFormed (utility_items_at network (index, u))
  grouped_utility_formed network index u groups duties most each = let at = place.Utility index in
      let sums = groups_formed at 0 0 rational_zero groups (omega (arith, most)) (sized-whole 1 0 (pos 0) (omega arith) (omega arith)) each in
      with_range network index u (subst (λ numbers. AreFormed (sum_steps at 0 rational_zero numbers)) (sym duties) sums)
