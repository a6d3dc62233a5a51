-- The words and lemmas from elsewhere that the proofs of this crate speak in, passed on from one place. Declares nothing.
pub use Rattle.corner_flow.specs.Corner.{IsCornerFlow, NeedsHeat, NoHeatCrosses, NoHeatCrossesPinch, UtilityHeat, as_pair, as_transfer, corner_price}
pub use Rattle.corner_flow.specs.Corner.{counts_low, heats_of, part_heat}
pub use Rattle.corner_flow.specs.Value.{IsValueBetween}
pub use Rattle.grid.proofs.HeatLemmas.{part_over, sum-part_over}
pub use Rattle.grid.proofs.PartsExist.{some_parts}
pub use Rattle.grid.proofs.PlaceLemmas.{interval_above, interval_below, interval_ends, interval_falls}
pub use Rattle.grid.proofs.SizeLemmas.{IsBounded-part}
pub use Rattle.grid.proofs.StandardUtilities.{sum_utilities}
pub use Rattle.grid.specs.Bounds.{IsBounded}
pub use Rattle.grid.specs.Grid.{HoldsPlaces, IsGrid, places_of}
pub use Rattle.grid.specs.Part.{AreCaseParts, AreParts, IsInterval, IsPartOf, IsPiece, comes_before, stands_above, utility_part}
pub use Rattle.grid.specs.declared.part.Part.{Part}
pub use Rattle.heat_flow.proofs.Blanks.{blank}
pub use Rattle.heat_flow.proofs.CostLemmas.{heats_at-not_negative}
pub use Rattle.heat_flow.proofs.Duality.{excess_price-*ℤ, int_sum_from-excess, side_worth, side_worth-parts, worth-le}
pub use Rattle.heat_flow.proofs.ReachLemmas.{both_parts}
pub use Rattle.heat_flow.specs.Certificate.{IsFlowOf}
pub use Rattle.heat_flow.specs.Cuts.{parts_of}
pub use Rattle.heat_flow.specs.Flow.{HaveParts, IsLeastCost, KeepsRanges, cost_of, heat_at, part_index, side_cost}
pub use Rattle.heat_flow.specs.Prices.{IsSupporting, excess_price, least_product, price_at, side_value, value_of}
pub use Rattle.heat_flow.specs.Reach.{both_reach, passes_heat, reach_between}
pub use Rattle.heat_flow.specs.declared.flow.Transfer.{Transfer}
pub use Rattle.problem_table.proofs.DeficitLemmas.{cold_target-between, deficit_from-lowest, deficit_over-bound, hot_target-between, some_tight}
pub use Rattle.problem_table.proofs.EndLemmas.{IsOutermost, IsOutermost-outermost, IsOutside}
pub use Rattle.problem_table.proofs.SideLemmas.{sum_side-same}
pub use Rattle.problem_table.specs.Deficit.{CountsFromItself, IsPinch, IsReferencePlace, IsTightOver, cold_target, deficit_above, deficit_from, hot_target}
pub use Rattle.problem_table.specs.Sides.{sum_side}
pub use Rattle.std.proofs.Math.IntN.{*ℤ-zero}
pub use Rattle.std.proofs.lemmas.Bool.{and_cases, and_from, and_parts, both_ways, cases_Bool, cases_eq, cases_lt, cases_order, false_from_ne_true, false≢true}
pub use Rattle.std.proofs.lemmas.Bool.{le-ltb, lt-ltb, not-true, or_cases, or_parts}
pub use Rattle.std.proofs.lemmas.Bool.Decides.{Decides-int_eq}
pub use Rattle.std.proofs.lemmas.Int.{by_lt_z, clamps, ints, to_z-of_z}
pub use Rattle.std.proofs.lemmas.List.{get_or-map, length-map, take-map}
pub use Rattle.std.proofs.lemmas.List.Elements.{All-cons, All-contains, All-head, All-map, All-nil, All-tail, All-weaker, Contains-append_cases}
pub use Rattle.std.proofs.lemmas.List.Elements.{Contains-append_left}
pub use Rattle.std.proofs.lemmas.Option.{get_or_from_slice_get, same_Some, slice_get-get_or, slice_get_within}
pub use Rattle.std.specs.Int.{int_min, w128}
pub use Rattle.std.specs.Ordering.{int_eq}
pub use Rattle.std.specs.Prelude.{All, AllPairs, Contains, Some, if◌then◌else◌, int_le, int_lt, nat_lt, pos, slice_get, ℤ, ◌*ℤ◌, ◌+ℤ◌, ◌-ℤ◌, ◌<ℤ◌, ◌==◌, ◌||◌}
pub use Rattle.std.specs.Prelude.{◌↔◌, ◌≤ℤ◌}
pub use Rattle.stream_case.proofs.CompleteLemmas.{HasValidStreams-IsComplete, IsPlaced-IsComplete, shifted_level-standard}
pub use Rattle.stream_case.proofs.EndLemmas.{each_end, length-stream_ends, level-latent}
pub use Rattle.stream_case.proofs.HeatLemmas.{load-between}
pub use Rattle.stream_case.proofs.SourceLemmas.{each_side}
pub use Rattle.stream_case.proofs.StandardUtilities.{one_utility, own_utility, some_utility, standard_side}
pub use Rattle.stream_case.specs.Case.{IsComplete, IsStandard, is_forbidden, outermost, standard_utility}
pub use Rattle.stream_case.specs.Limits.{IsBetween, IsHeat, IsPartPrice}
pub use Rattle.stream_case.specs.Source.{is_stream}
pub use Rattle.stream_case.specs.Stream.{HasValidStreams, IsValidStream, counts_above, has_level_at, heat_over, high_end, is_level_at, load_over, low_end}
pub use Rattle.stream_case.specs.Stream.{sensible_above, stream_ends}
pub use Rattle.stream_case.specs.Utility.{shifted_level}
pub use Rattle.stream_case.specs.declared.case.Case.{Case}
pub use Rattle.stream_case.specs.declared.limits.TheConstants.{MOST_HEAT}
pub use Rattle.stream_case.specs.declared.source.Side.{Side}
pub use Rattle.stream_case.specs.declared.source.Side.TheVariants.{Cold, Hot}
pub use Rattle.stream_case.specs.declared.stream.Stream.{Stream}
pub use Rattle.sums.proofs.CountLemmas.{none_any}
pub use Rattle.sums.proofs.IntegerLemmas.{if_zero, int_le-false, int_le-from, int_lt-false, int_lt-from, strictly}
pub use Rattle.sums.proofs.ListLemmas.{All-slice_get}
pub use Rattle.sums.proofs.ProductLemmas.{one_times, product_not_negative, zero_times}
pub use Rattle.sums.proofs.SumLemmas.{int_sum_by-le, int_sum_by-map, int_sum_by-not_negative, int_sum_by-zero, int_sum_from-add, int_sum_from-by}
pub use Rattle.sums.proofs.SumLemmas.{int_sum_from-grouped, int_sum_from-le_each, int_sum_from-same_each, int_sum_from-zero}
pub use Rattle.sums.proofs.WalkLemmas.{begin_of-rises, overlaps_first, overlaps_second, some_overlaps}
pub use Rattle.sums.specs.Spans.{IsOverlap, ListsOverlaps, NotNegative, begin_of, overlap, pair_before}
pub use Rattle.sums.specs.Sum.{int_sum_by, int_sum_from}
pub use Rattle.sums.specs.declared.pairs.Pair.{Pair}
