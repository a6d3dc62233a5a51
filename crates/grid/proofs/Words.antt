-- The words and lemmas from elsewhere that the proofs of this crate speak in, passed on from one place. Declares nothing.
pub use Rattle.grid.specs.Grid.{HoldsPlaces, IsGrid, places_of}
pub use Rattle.grid.specs.Making.{covers, interval_parts, is_here, has_latent_heat, level_parts, made_parts, picked, stands_at}
pub use Rattle.grid.specs.OnGrid.{AreOnGrid, IsOnPlaces}
pub use Rattle.grid.specs.Part.{AreCaseParts, AreParts, IsInterval, IsPartOf, IsPiece, comes_before, comes_before_source, piece_heat, stands_above, stream_part}
pub use Rattle.grid.specs.Part.{utility_part}
pub use Rattle.grid.specs.declared.part.Part.{Part}
pub use Rattle.std.proofs.Math.IntN.{*ℤ-zero}
pub use Rattle.std.proofs.Math.Nat.{mul-le-mul}
pub use Rattle.std.proofs.lemmas.Bool.{and_from, and_left, and_parts, and_right, cases_Bool, cases_eq, cases_lt, false_from_ne_true}
pub use Rattle.std.proofs.lemmas.Bool.Decides.{Decides-int_eq}
pub use Rattle.std.proofs.lemmas.Int.{by_lt_z, clamps, ints, to_z-of_z}
pub use Rattle.std.proofs.lemmas.List.{append-nil, drop_all, drop_more, get_or-map, length-append, length-map, take_more}
pub use Rattle.std.proofs.lemmas.List.Elements.{All-append, All-cons, All-contains, All-contains_itself, All-filter, All-head, All-nil, All-tail, All-weaker}
pub use Rattle.std.proofs.lemmas.List.Elements.{Contains-append_left, Contains-append_right, Contains-get_or, filter_passes}
pub use Rattle.std.proofs.lemmas.List.Kept.{AllPairs-cons, AllPairs-filter}
pub use Rattle.std.proofs.lemmas.Option.{get_or_from_slice_get, none-some, same_Some, slice_get-get_or, slice_get_within}
pub use Rattle.std.specs.Int.{int_max}
pub use Rattle.std.specs.Ordering.{int_eq}
pub use Rattle.std.specs.Prelude.{All, AllPairs, Contains, filter, if◌then◌else◌, int_le, int_lt, map, pos, slice_get, ℤ, ◌*ℤ◌, ◌+ℤ◌, ◌-ℤ◌, ◌<ℤ◌, ◌≤ℤ◌}
pub use Rattle.stream_case.proofs.CaseLemmas.{length-AreStreams}
pub use Rattle.stream_case.proofs.CompleteLemmas.{AreStreams-IsComplete, IsPlaced-IsComplete, length-utilities}
pub use Rattle.stream_case.proofs.EndLemmas.{each_end, length-stream_ends, level-latent, order-sensible}
pub use Rattle.stream_case.proofs.HeatLemmas.{heat-between, heat_over-latent, heat_over-sensible, load-between, range-length}
pub use Rattle.stream_case.proofs.SourceLemmas.{own_side, same_side-true}
pub use Rattle.stream_case.proofs.StandardUtilities.{in_order}
pub use Rattle.stream_case.specs.Case.{IsComplete, IsStandard, side_of}
pub use Rattle.stream_case.specs.Limits.{IsHeat, IsLength, IsSensibleHeat, IsStreamHeat}
pub use Rattle.stream_case.specs.Source.{is_stream, same_side}
pub use Rattle.stream_case.specs.Stream.{AreStreams, IsLatent, IsSensible, IsValidStream, count_on, counts_above, heat_between, heat_over, high_end}
pub use Rattle.stream_case.specs.Stream.{length_above, low_end, sensible_above, stream_ends}
pub use Rattle.stream_case.specs.Utility.{IsPlaced, shifted_level}
pub use Rattle.stream_case.specs.declared.case.Case.{Case}
pub use Rattle.stream_case.specs.declared.limits.TheConstants.{ALL_UTILITIES, MOST_LOAD, MOST_PARTS, MOST_PLACES}
pub use Rattle.stream_case.specs.declared.source.Side.{Side}
pub use Rattle.stream_case.specs.declared.source.Side.TheVariants.{Cold, Hot}
pub use Rattle.stream_case.specs.declared.source.Source.{Source}
pub use Rattle.stream_case.specs.declared.stream.Stream.{Stream}
pub use Rattle.stream_case.specs.declared.utility.Utility.{Utility}
pub use Rattle.sums.proofs.CountLemmas.{count_by-cons, length-le_falling}
pub use Rattle.sums.proofs.IntegerLemmas.{int_le-false, int_le-from, int_le-true, int_lt-false, int_lt-from}
pub use Rattle.sums.proofs.ListLemmas.{All-slice_get}
pub use Rattle.sums.proofs.OrderLemmas.{AllPairs-append, AllPairs-head, AllPairs-nil, AllPairs-tail, Contains-cons, Lists-unique, ListsFalling-unique}
pub use Rattle.sums.proofs.ProductLemmas.{*ℤ--ℤ}
pub use Rattle.sums.proofs.SumLemmas.{int_sum_by-add, int_sum_by-append, int_sum_by-at_most, int_sum_by-same, int_sum_by-zero}
pub use Rattle.sums.specs.Order.{ListsFalling}
pub use Rattle.sums.specs.Pairing.{cons_if}
pub use Rattle.sums.specs.Sum.{int_sum_by}
