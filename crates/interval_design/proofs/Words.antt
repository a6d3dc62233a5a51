-- The words and lemmas from elsewhere that the proofs of this crate speak in, passed on from one place. Declares nothing.
pub use Rattle.design_lines.proofs.ListLemmas.{kept_hold}
pub use Rattle.design_lines.specs.LedStages.{LedStage, Meet, size_of, state_behind}
pub use Rattle.design_lines.specs.Ways.{on_the_way}
pub use Rattle.design_lines.specs.declared.stage.Share.{Share}
pub use Rattle.fractions.proofs.Comparisons.{at_most-whole, positive-ratio, positive_num}
pub use Rattle.fractions.proofs.Limits.{outside_from_none, within-ratio, within-whole}
pub use Rattle.fractions.proofs.RationalSums.{rational_sum_by-same, rational_sum_by-whole}
pub use Rattle.fractions.proofs.Ratios.{plus-ratio_same_den, ratio-zero}
pub use Rattle.fractions.proofs.Wholes.{ratio-multiple, ratio-times_den, whole-minus, whole-plus, whole-times}
pub use Rattle.fractions.specs.Rationals.{IsAtMost, IsBelow, Rational, rational_sum, rational_sum_by, rational_zero, whole}
unfoldable pub use Rattle.fractions.specs.Rationals.{minus, plus, ratio, times}
pub use Rattle.grid.proofs.MakingLemmas.{HoldsPlaces-IsGrid, holds_ends}
pub use Rattle.grid.proofs.OnGridLemmas.{side_of_part}
pub use Rattle.grid.proofs.PlaceLemmas.{interval_below, interval_ends, interval_falls}
pub use Rattle.stream_case.proofs.StandardUtilities.{own_utility}
pub use Rattle.grid.specs.Bounds.{IsBounded}
pub use Rattle.grid.specs.Part.{AreCaseParts, AreParts, IsInterval, IsPartOf, IsPiece, IsStreamPart, comes_before, comes_before_source, piece_heat, stream_part}
pub use Rattle.grid.specs.Part.{utility_part}
pub use Rattle.grid.specs.declared.part.Part.{Part}
pub use Rattle.heat_flow.proofs.Blanks.{blank}
pub use Rattle.heat_flow.proofs.CostLemmas.{HasCost-flow, heats_within, part_price, side_cost-transfers}
pub use Rattle.heat_flow.specs.Flow.{HaveParts, IsHeatFlow, KeepsRanges, cost_of, heat_at, part_index, precedes, side_cost}
pub use Rattle.heat_flow.specs.Reach.{both_reach, part_reaches, passes_heat, reach_between}
pub use Rattle.heat_flow.specs.declared.flow.Transfer.{Transfer}
pub use Rattle.interval_design.specs.Balance.{flow_balance, utilities_heat}
pub use Rattle.interval_design.specs.Courses.{exchange_of, exchanger_of, part_sources, width_at, width_of}
pub use Rattle.interval_design.proofs.PartPieces.{entered_at, entered_state, left_at, left_state, piece_of, source_state}
pub use Rattle.network_audit.proofs.Sized.{sized-whole}
pub use Rattle.network_audit.proofs.StreamSizes.{first_state-sized, full_size-most}
pub use Rattle.network_audit.specs.Balance.{duty_with}
pub use Rattle.network_audit.specs.Sized.{AreSmall, IsSized, IsWholeGroup}
pub use Rattle.network_audit.specs.declared.verdict.Balance.{Balance}
pub use Rattle.network_values.proofs.StreamStates.{first_state-latent, fixed_level-latent, fixed_level-sensible, full_size-positive, last_state-latent}
pub use Rattle.network_values.specs.Penalties.{unshifted}
pub use Rattle.network_values.specs.Sides.{contribution_of}
pub use Rattle.network_values.specs.Values.{IsPartOfLoad, change, first_part_of_load, first_state, full_size, last_part_of_load, last_state}
pub use Rattle.networks.specs.Lines.{Exchanger}
pub use Rattle.networks.specs.Shape.{IsPositive}
pub use Rattle.pieces.proofs.PieceShape.{has_size}
pub use Rattle.pieces.proofs.PieceStages.{filter_map-way, mapped_item, on_side-ap, only_item}
pub use Rattle.pieces.specs.Led.{AreApart, AreJoined, AreLedPieces, HasUtilityHeat, IsFine, IsLedNetwork, IsStreamPiece, JoinsPieces, exchange_balance}
pub use Rattle.pieces.specs.Led.{heats_with, level_in, temperature}
pub use Rattle.pieces.specs.Pieces.{Piece, exchangers_for, led_course, led_piece, led_stage, on_side, piece_on, share_of, size_on, source_at, sources_of}
unfoldable pub use Rattle.pieces.specs.Pieces.{shares_of}
pub use Rattle.pieces.specs.declared.exchange.Exchange.{Exchange}
pub use Rattle.problem_table.specs.Deficit.{hot_target}
pub use Rattle.std.proofs.Math.IntN.{*ℤ-zero, +ℤ_idr}
pub use Rattle.std.proofs.Math.Nat.{mul-le-mul}
pub use Rattle.std.proofs.lemmas.Bool.{and_parts, cases_eq, cases_order, eq-eqb, false_from_ne_true, false≢true, lt-ltb, ne_eqb, or_cases}
pub use Rattle.std.proofs.lemmas.Bool.Decides.{Decides-int_eq, nat_tests}
pub use Rattle.std.proofs.lemmas.Int.{by_lt_z, ints}
pub use Rattle.std.proofs.lemmas.List.{length-map, reverse-append}
pub use Rattle.std.proofs.lemmas.List.Elements.{All-cons, All-head, All-map, All-nil, All-tail}
pub use Rattle.std.proofs.lemmas.List.FromFn.{length-enumerate_from}
pub use Rattle.std.proofs.lemmas.Option.{get_or_from_slice_get, same_Some, slice_get-get_or, slice_get-map, slice_get_within}
pub use Rattle.std.proofs.lemmas.Simd.{map-map}
pub use Rattle.std.specs.List.{cons_option, enumerate_from, filter_map}
pub use Rattle.std.specs.Option.{option_map_or}
pub use Rattle.std.specs.Ordering.{int_eq}
pub use Rattle.std.specs.Prelude.{Contains, IsTrue, int_le, nat_lt, not, option_map, reverse, unwrap_or, ◌&&◌, ◌||◌}
pub use Rattle.stream_case.proofs.CaseLemmas.{length-AreStreams}
pub use Rattle.stream_case.proofs.CompleteLemmas.{AreStreams-IsComplete}
pub use Rattle.stream_case.proofs.EndLemmas.{AreEnds-IsValidStream, level-latent}
pub use Rattle.stream_case.proofs.HeatLemmas.{is_latent-latent, is_latent-sensible, range-length}
pub use Rattle.stream_case.proofs.SourceLemmas.{same_source-same, same_source-true}
pub use Rattle.stream_case.specs.Case.{IsComplete, IsStandard, is_forbidden, side_of, standard_utility}
pub use Rattle.stream_case.specs.Limits.{IsContribution, IsHeat, IsShifted}
pub use Rattle.stream_case.specs.Shift.{shifted}
pub use Rattle.stream_case.specs.Source.{is_hot, is_stream, same_source}
pub use Rattle.stream_case.specs.Stream.{IsLatent, IsSensible, IsValidStream, high_end, is_latent, low_end}
pub use Rattle.stream_case.specs.declared.case.Case.{Case}
pub use Rattle.stream_case.specs.declared.limits.TheConstants.{HIGHEST_LEVEL, LONGEST_RANGE, MOST_HEAT, MOST_LOAD, MOST_PARTS}
pub use Rattle.stream_case.specs.declared.source.Side.{Side}
pub use Rattle.stream_case.specs.declared.source.Source.{Source}
pub use Rattle.stream_case.specs.declared.stream.Stream.{Stream}
pub use Rattle.stream_case.specs.declared.utility.Utility.{Utility}
pub use Rattle.sums.proofs.EnumerationLemmas.{All-enumerated}
pub use Rattle.sums.proofs.IntegerLemmas.{int_le-true}
pub use Rattle.sums.proofs.ListLemmas.{All-slice_get}
pub use Rattle.sums.proofs.ProductLemmas.{*ℤ-+ℤ, one_times, zero_times}
pub use Rattle.sums.specs.Sum.{int_sum_by, int_sum_from}
