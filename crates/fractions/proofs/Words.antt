-- The words and lemmas from elsewhere that the proofs of this crate speak in, passed on from one place. Declares nothing.
pub use Rattle.fractions.specs.Integers.{pos_above, signed, signed-*ℤ-signed, signed-sign, unsigned_abs-signed, zero_from_size}
pub use Rattle.fractions.specs.Lowest.{IsLowest, IsLowest-one, crosswise, divided}
pub use Rattle.fractions.specs.LowestForms.{ratio-den, ratio-den_le, ratio-num, ratio-num_le, ratio-self, ratio-value, same_divided, same_from_value}
pub use Rattle.fractions.specs.Order.{cmp-scale, rational_ranks}
pub use Rattle.fractions.specs.Rationals.{Gives, IsAtMost, IsBelow, IsWithinLimits, Rational, SameValue, fraction_text, is_below, is_within_limits}
pub use Rattle.fractions.specs.Rationals.{rational_one, rational_sum, rational_sum_by, rational_zero, whole}
unfoldable pub use Rattle.fractions.specs.Rationals.{bounded_ratio, lowest_form, minus, over, plus, ratio, rational_cmp, reciprocal, times}
pub use Rattle.std.proofs.Math.IntN.{*ℤ-zero, *ℤ_comm}
pub use Rattle.std.proofs.Math.Nat.{div-add-mod, eq-zero-or-pos, mod-eq_of_lt, mul-le-mul_left, mul-one, mul-pos, mul_comm, pos_of_dvd_of_pos}
pub use Rattle.std.proofs.lemmas.Bool.{cases_eq, cases_lt, false_from_ne_true}
pub use Rattle.std.proofs.lemmas.Bool.Decides.{Decides-like, Decides-not, nat_tests, same_from_decides}
pub use Rattle.std.proofs.lemmas.Int.{by_lt_z, ints, to_z-of_z}
pub use Rattle.std.proofs.lemmas.List.Folds.{list_any_at, list_any_none}
pub use Rattle.std.proofs.lemmas.Nat.{le-div}
pub use Rattle.std.proofs.lemmas.Nat.Gcd.{IsGcd-from_mod, IsGcd-from_zero}
pub use Rattle.std.proofs.lemmas.Option.{cond_some}
pub use Rattle.std.specs.Bool.{beq}
pub use Rattle.std.specs.Int.{IsGcd, w128, w64}
pub use Rattle.std.specs.Int.Digits.{digits_of}
pub use Rattle.std.specs.Int.Signed.{clash_ℤ, ≤ℤ_refl}
pub use Rattle.std.specs.List.{cons_option, enumerate_from, list_any, range_with_len}
pub use Rattle.std.specs.Option.{option_map_or}
pub use Rattle.std.specs.Ordering.{MatchOrdering}
pub use Rattle.std.specs.Prelude.{codes}
pub use Rattle.std.specs.declared.cmp.Ordering.TheVariants.{Less}
pub use Rattle.sums.proofs.CountLemmas.{count_by-cons}
pub use Rattle.sums.proofs.EnumerationLemmas.{All-enumerated, map-enumerate_from_index, map-enumerate_from_item}
pub use Rattle.sums.proofs.OrderLemmas.{AllPairs-head, AllPairs-tail, Contains-cons}
pub use Rattle.sums.proofs.ProductLemmas.{*ℤ-+ℤ, *ℤ--ℤ, *ℤ-interchange, *ℤ-pos_one, *ℤ_assoc, *ℤ_cancel_right, *ℤ_swap, +ℤ-*ℤ, -ℤ-*ℤ}
pub use mathlib.Core.Path.{ap₂, subst₂}
