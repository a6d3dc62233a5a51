-- The words and lemmas from elsewhere that the proofs of this crate speak in, passed on from one place. Declares nothing.
pub use Rattle.curves.specs.Below.{length_below}
pub use Rattle.design_lines.proofs.ListLemmas.{filter_map-enumerate_more, item_there, kept_hold}
pub use Rattle.design_lines.proofs.NumberedItems.{numbered-item}
pub use Rattle.design_lines.proofs.SensibleStreams.{AreSensibleStreams, AreSensibleStreams-both, AreSensibleStreams-case, IsSensibleCase, IsSensibleCase-both}
pub use Rattle.design_lines.proofs.SensibleStreams.{IsSensibleStream}
pub use Rattle.design_lines.proofs.StageSizes.{IsOver}
pub use Rattle.design_lines.specs.LedStages.{LedStage, Meet, size_of, state_behind}
pub use Rattle.design_lines.specs.declared.stage.Share.{Share}
pub use Rattle.fractions.proofs.Comparisons.{at_most-ratio_whole, at_most-whole, at_most-whole_ratio, at_most_below_trans, at_most_from_below}
pub use Rattle.fractions.proofs.Comparisons.{at_most_from_minus_right, at_most_from_ratio, at_most_from_ratio_whole, at_most_from_whole_ratio, at_most_trans}
pub use Rattle.fractions.proofs.Comparisons.{below-ratio, below_at_most_trans, positive-ratio, positive_from_ratio, positive_num}
pub use Rattle.fractions.proofs.Limits.{outside_from_none, within-ratio}
pub use Rattle.fractions.proofs.RationalSums.{rational_sum_by-append, rational_sum_by-ratio, rational_sum_by-same}
pub use Rattle.fractions.proofs.Ratios.{by_one, by_two, minus-ratio_same_den, plus-ratio_same_den, ratio-one, ratio-zero, same_from_ratio, times-ratio}
pub use Rattle.fractions.proofs.Sums.{minus-minus_same, minus-plus, minus-plus_plus, minus-self, plus-minus, plus-zero, plus_assoc, plus_comm}
pub use Rattle.fractions.proofs.Wholes.{ratio-multiple, whole-minus, whole-nonzero, whole-plus, whole-times}
pub use Rattle.fractions.specs.Integers.{pos_above}
pub use Rattle.fractions.specs.Rationals.{IsAtMost, IsBelow, Rational, rational_sum, rational_sum_by, rational_zero, whole}
unfoldable pub use Rattle.fractions.specs.Rationals.{minus, plus, ratio, times}
pub use Rattle.network_audit.proofs.HeatLemmas.{cold_heat-is, hot_heat-is}
pub use Rattle.network_audit.proofs.Sized.{sized-minus, sized-plus, sized-whole}
pub use Rattle.network_audit.proofs.SumSteps.{length-numbers}
pub use Rattle.network_audit.specs.Balance.{balance_of, duty_with, excess_of, heat_price, heat_with}
unfoldable pub use Rattle.network_audit.specs.Balance.{cost_of, duties_with}
pub use Rattle.network_audit.specs.Sized.{AreSmall, IsSized, IsWholeGroup, count_of}
pub use Rattle.network_values.proofs.HeightLemmas.{positive_part-cases}
pub use Rattle.network_values.proofs.StreamStates.{first_end, first_state-unshifted, fixed_level-sensible, full_size-sensible, last_end, last_state-unshifted}
pub use Rattle.network_values.proofs.WholeLemmas.{All-range}
unfoldable pub use Rattle.network_values.specs.Heights.{positive_part}
pub use Rattle.network_values.specs.Penalties.{unshifted}
pub use Rattle.network_values.specs.Sides.{contribution_of, fixed_level}
pub use Rattle.network_values.specs.Values.{change, first_state, last_state}
pub use Rattle.networks.proofs.Lists.{all_at}
unfoldable pub use Rattle.networks.specs.Lines.{exchangers_of}
pub use Rattle.networks.specs.Shape.{HasShape, IsPositive}
pub use Rattle.networks.specs.declared.network.Network.{Network}
pub use Rattle.pieces.proofs.PieceShape.{has_size}
pub use Rattle.pieces.proofs.PieceStages.{filter_map-way, no_items, only_item, source_at-piece}
pub use Rattle.pieces.specs.Led.{AreApart, AreJoined, AreLedPieces, HasUtilityHeat, IsFine, IsLedNetwork, IsStreamPiece, JoinsPieces, LedPiecesDrawLedNetworks}
pub use Rattle.pieces.specs.Led.{heats_with, level_in, temperature}
pub use Rattle.pieces.specs.Pieces.{Piece, exchanger_of, exchangers_for, is_stage, led_course, led_piece, led_stage, on_side, piece_on, share_of, size_on}
pub use Rattle.pieces.specs.Pieces.{source_at, sources_of}
unfoldable pub use Rattle.pieces.specs.Pieces.{shares_of}
pub use Rattle.pieces.specs.declared.exchange.Exchange.{Exchange}
pub use Rattle.problem_table.proofs.DeficitLemmas.{cold_target-between, cold_target-within, hot_target-between, hot_target-bound, hot_target-within}
pub use Rattle.problem_table.proofs.EndLemmas.{IsOutermost, IsOutermost-outermost}
pub use Rattle.problem_table.proofs.SideLemmas.{sum_side-heat, sum_side-le, sum_side-more, sum_side-same, sum_side-so_far, sum_side-zero}
pub use Rattle.problem_table.specs.Deficit.{cold_target, hot_target}
pub use Rattle.problem_table.specs.Sides.{sum_side}
pub use Rattle.std.proofs.Math.Bool.{or-false}
pub use Rattle.std.proofs.Math.IntN.{*ℤ-zero, *ℤ_comm}
pub use Rattle.std.proofs.Math.Nat.{mul-le-mul, mul-le-mul_right}
pub use Rattle.std.proofs.lemmas.Bool.{and_parts, cases_eq, cases_lt, cases_order, eq-eqb, eqb-true, false_from_ne_true, false≢true, ltb-true, ne_eqb}
pub use Rattle.std.proofs.lemmas.Bool.Decides.{nat_tests}
pub use Rattle.std.proofs.lemmas.Int.{clamps, ints, to_z-of_z, unsigned_abs-mul}
pub use Rattle.std.proofs.lemmas.List.{append-nil, get_or-map, get_or_default, length-append, length-map, length-take, map-append, reverse-append, take_all}
pub use Rattle.std.proofs.lemmas.List.{take_more}
pub use Rattle.std.proofs.lemmas.List.Elements.{All-append, All-cons, All-contains, All-head, All-map, All-nil, All-tail, All-take, All-weaker}
pub use Rattle.std.proofs.lemmas.List.Elements.{Contains-append_left, Contains-append_right, Contains-get_or, filter_map-append}
pub use Rattle.std.proofs.lemmas.List.Filters.{dedup_is}
pub use Rattle.std.proofs.lemmas.List.Folds.{flat_map-map}
pub use Rattle.std.proofs.lemmas.List.FromFn.{get_or-range_with_len, length-enumerate_from, length-range_with_len}
pub use Rattle.std.proofs.lemmas.List.Kept.{AllPairs-cons}
pub use Rattle.std.proofs.lemmas.Option.{get_or_from_slice_get, none-some, same_Some, slice_get-get_or, slice_get-map, slice_get_within}
pub use Rattle.std.proofs.lemmas.Simd.{map-map}
pub use Rattle.std.specs.Int.{int_max, int_min, w128}
pub use Rattle.std.specs.List.{cons_option, count_by, enumerate_from, filter_map, flat_map, range_with_len}
pub use Rattle.std.specs.Option.{option_map_or, option_to_list}
pub use Rattle.std.specs.Prelude.{Bool, Contains, Option, filter, if◌then◌else◌, int_le, int_lt, nat_lt, option_map, reverse, unsigned_abs, ◌&&◌, ◌*ℤ◌, ◌-ℤ◌}
pub use Rattle.std.specs.Prelude.{◌<ℤ◌, ◌≡◌}
pub use Rattle.stream_case.proofs.CaseLemmas.{length-AreStreams}
pub use Rattle.stream_case.proofs.CompleteLemmas.{AreStreams-IsComplete, HasValidStreams-IsComplete, length-utilities, shifted_level-standard}
pub use Rattle.stream_case.proofs.EndLemmas.{AreEnds, AreEnds-IsValidStream, each_end, length-stream_ends, order-sensible}
pub use Rattle.stream_case.proofs.HeatLemmas.{heat-between, heat_of-sensible, heat_over-between, heat_over-sensible, is_latent-sensible, range-length}
pub use Rattle.stream_case.proofs.SourceLemmas.{each_side, own_side, same_side-true, same_source-same, same_source-true}
pub use Rattle.stream_case.specs.Case.{IsStandard, is_forbidden, outermost, side_of, standard_utility}
pub use Rattle.stream_case.specs.Limits.{IsBetween, IsContribution, IsSensibleHeat, IsSensiblesHeat, IsStreamHeat}
pub use Rattle.stream_case.specs.Shift.{shifted}
pub use Rattle.stream_case.specs.Source.{same_side, same_source}
pub use Rattle.stream_case.specs.Stream.{AreSensible, HasValidStreams, IsSensible, IsValidStream, distance_above, heat_above, heat_of, high_end, length_above}
pub use Rattle.stream_case.specs.Stream.{low_end, stream_ends}
pub use Rattle.stream_case.specs.Utility.{shifted_level}
pub use Rattle.stream_case.specs.declared.case.Case.{Case}
pub use Rattle.stream_case.specs.declared.limits.TheConstants.{ALL_SENSIBLE_HEAT, HIGHEST_SHIFTED, LOWEST_SHIFTED, MOST_CONTRIBUTION, MOST_CP, MOST_HEAT}
pub use Rattle.stream_case.specs.declared.limits.TheConstants.{MOST_STREAMS}
pub use Rattle.stream_case.specs.declared.source.Side.{Side}
pub use Rattle.stream_case.specs.declared.source.Source.{Source}
pub use Rattle.stream_case.specs.declared.stream.Stream.{Stream}
pub use Rattle.stream_case.specs.declared.utility.Utility.{Utility}
pub use Rattle.sums.proofs.CountLemmas.{count_by-cons, length-le_falling}
pub use Rattle.sums.proofs.EnumerationLemmas.{enumerate_from-append, range_with_len-append}
pub use Rattle.sums.proofs.IntegerLemmas.{int_le-false, int_le-from, int_le-true, int_lt-from, int_lt-true, int_lt_cases, strictly}
pub use Rattle.sums.proofs.ListLemmas.{All-flat_map, All-slice_get, Contains-flat_map, Contains-slice_get, slice_get-append}
pub use Rattle.sums.proofs.OrderLemmas.{AllPairs-append, AllPairs-nil, Lists-reverse, ListsRising-sorted}
pub use Rattle.sums.proofs.ProductLemmas.{*ℤ-+ℤ, *ℤ--ℤ, *ℤ-<ℤ_right, *ℤ-≤ℤ_left, *ℤ-≤ℤ_right, *ℤ_cancel_right, +ℤ-*ℤ, -ℤ-*ℤ, neg_ℤ-*ℤ, one_times}
pub use Rattle.sums.proofs.ProductLemmas.{product_between, product_positive, zero_times}
pub use Rattle.sums.proofs.SumLemmas.{int_sum_by-add, int_sum_by-at_most, int_sum_by-equal, int_sum_by-more, int_sum_by-not_negative, int_sum_by-same}
pub use Rattle.sums.specs.Order.{Lists, ListsFalling, ListsRising}
pub use Rattle.sums.specs.Spans.{IsOverlap, ListsOverlaps, NotNegative, overlap, pair_before}
pub use Rattle.sums.specs.Sum.{int_sum_by}
pub use Rattle.sums.specs.declared.pairs.Pair.{Pair}
pub use Rattle.vertical_design.specs.Axis.{AreCuts, begin_of, ends_of, heat_at, heat_below, stream_band, utility_band, utility_from, utility_to}
unfoldable pub use Rattle.vertical_design.specs.Axis.{bands_of}
pub use Rattle.vertical_design.specs.Balance.{target_balance}
pub use Rattle.vertical_design.specs.Courses.{AreBetween, sources_between, sources_in}
unfoldable pub use Rattle.vertical_design.specs.Courses.{network_of}
pub use Rattle.vertical_design.specs.Limits.{AreBands, IsBand, IsFlow, IsGap, IsPlace, IsSideFlow}
unfoldable pub use Rattle.vertical_design.specs.Matches.{IsMet, amounts_in, exchanges_at, exchanges_between, flow_in, flows_in, intervals_of, lower_cut}
unfoldable pub use Rattle.vertical_design.specs.Matches.{match_of, matches_in, pair_of, pairs_of, scaled, side_flow, upper_cut}
pub use Rattle.vertical_design.specs.Vertical.{AreFacing, IsAtUtility, IsVertical, IsVerticalAt, entry, exit, on_scale, range_below, stream_heat}
unfoldable pub use Rattle.vertical_design.specs.Vertical.{curve_heat}
pub use Rattle.vertical_design.specs.declared.limits.TheConstants.{MOST_BANDS, MOST_CUTS, MOST_FLOW}
pub use Rattle.vertical_design.specs.declared.band.Band.{Band}
pub use mathlib.Core.Path.{subst₂}
