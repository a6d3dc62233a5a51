-- The words and lemmas from elsewhere that the proofs of this crate speak in, passed on from one place. Declares nothing.
pub use Rattle.std.proofs.Math.IntN.{*ℤ-zero, *ℤ_comm}
pub use Rattle.std.proofs.Math.Nat.{mul-pos}
pub use Rattle.std.proofs.lemmas.Bool.{cases_eq, cases_lt, false_from_ne_true, false≢true}
pub use Rattle.std.proofs.lemmas.Bool.Decides.{Decides-int_eq}
pub use Rattle.std.proofs.lemmas.Cmp.{int_cmp_total, int_eq_equiv, int_ranked}
pub use Rattle.std.proofs.lemmas.Int.{by_lt_z, clamps, ints, to_z-of_z}
pub use Rattle.std.proofs.lemmas.List.{get_or-reverse, get_or_append_left, get_or_default, length-reverse, take_more}
pub use Rattle.std.proofs.lemmas.List.Concat.{flat_map-append}
pub use Rattle.std.proofs.lemmas.List.Elements.{All-append, All-cons, All-contains, All-head, All-map, All-nil, All-tail, All-weaker, Contains-append_left}
pub use Rattle.std.proofs.lemmas.List.Elements.{Contains-append_right, Contains-get_or, filter_map-append}
pub use Rattle.std.proofs.lemmas.List.Filters.{dedup_is}
pub use Rattle.std.proofs.lemmas.List.Folds.{find-append, fold-map, list_any_at}
pub use Rattle.std.proofs.lemmas.List.Kept.{AllPairs-cons, Contains-dedup, Contains-from_dedup, IsStrictlySortedBy-dedup}
pub use Rattle.std.proofs.lemmas.List.Sums.{sum_by-cons}
pub use Rattle.std.proofs.lemmas.Map.Keys.{Less-from_sorted}
pub use Rattle.std.specs.Int.{int_max, int_min}
pub use Rattle.std.specs.Int.Signed.{clash_ℤ}
pub use Rattle.std.specs.List.{cons_option, dedup, enumerate_from, list_any, range_with_len}
pub use Rattle.std.specs.List.Sorted.{IsStrictlySortedBy}
pub use Rattle.std.specs.Option.{option_or}
pub use Rattle.sums.specs.Order.{Lists, ListsFalling, ListsRising}
pub use Rattle.sums.specs.Pairing.{IsWithin, cons_if, cons_positive, progress_after}
pub use Rattle.sums.specs.Sum.{int_sum_by, int_sum_from}
pub use Rattle.sums.specs.declared.pairs.Pair.{Pair}
pub use Rattle.sums.specs.declared.pairs.Progress.{Progress}
pub use borrow.Author.Differences.{down, up}
