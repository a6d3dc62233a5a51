-- The words and lemmas from elsewhere that the proofs of this crate speak in, passed on from one place. Declares nothing.
pub use Rattle.design_lines.proofs.CourseEnds.{each_ended, no_end-declared}
pub use Rattle.design_lines.proofs.CourseValues.{courses_made}
pub use Rattle.design_lines.proofs.Declared.{exchangers_of-drawn}
pub use Rattle.design_lines.proofs.FewLines.{few-courses}
pub use Rattle.design_lines.proofs.ListLemmas.{filter_map-enumerate_more, item_there, kept_hold, map-enumerate_more, sum_by-reverse}
pub use Rattle.design_lines.proofs.NameLemmas.{IsName-exchanger_name}
pub use Rattle.design_lines.proofs.NumberedItems.{numbered-item, numbered_names-differ, slice_get-numbered}
pub use Rattle.design_lines.proofs.CourseValues.{EachRuns}
pub use Rattle.design_lines.proofs.ValueSteps.{RunsAs, StageRuns}
pub use Rattle.design_lines.proofs.PassRuns.{courses_run, enters-run, leaves-run}
pub use Rattle.design_lines.proofs.Shaped.{HasShape-drawn}
pub use Rattle.design_lines.proofs.ValueSteps.{make_append}
pub use Rattle.design_lines.proofs.WholeValues.{AreValues, declared_make, own_start, values_made}
pub use Rattle.design_lines.specs.Drawn.{Course, all_branches, course_branches, courses_lines, declared_line, made_branches}
pub use Rattle.design_lines.specs.Led.{AreStages, IsCourseOf, IsShareOf, turns}
pub use Rattle.design_lines.specs.LedStages.{LedStage}
pub use Rattle.design_lines.proofs.StageValues.{AreLedFrom, IsLedStage, IsLedStream, Make, courses_along, courses_values, shares_along, stage_values}
pub use Rattle.design_lines.specs.Ways.{on_the_way}
pub use Rattle.design_lines.specs.declared.stage.Share.{Share}
pub use Rattle.fractions.proofs.Comparisons.{at_most-whole, at_most_trans, positive-is}
pub use Rattle.fractions.proofs.Ratios.{ratio-one}
pub use Rattle.fractions.specs.Rationals.{Rational}
pub use Rattle.network_audit.proofs.FormedLemmas.{AreFormed}
pub use Rattle.network_audit.proofs.GroupSums.{grouped_utility_formed}
pub use Rattle.network_audit.proofs.HeatLemmas.{source_on}
pub use Rattle.network_audit.specs.Sized.{AreSmall}
pub use Rattle.network_audit.proofs.LineSteps.{HasRoom, IsRoomy, sized_change, sized_roomy}
pub use Rattle.network_audit.proofs.NoFinding.{no_finding_from_room}
pub use Rattle.network_audit.specs.Sized.{IsSized}
pub use Rattle.network_audit.proofs.Sized.{sized-between}
pub use Rattle.network_audit.proofs.StreamSizes.{first_state-sized, full_size-sized}
pub use Rattle.network_audit.proofs.SumBounds.{HaveWholeHeats, heat-sized}
pub use Rattle.network_audit.specs.AllItems.{utility_items_at}
pub use Rattle.network_audit.specs.Balance.{balance_of, duty_with, heat_with}
unfoldable pub use Rattle.network_audit.specs.Balance.{cost_of, duties_with}
pub use Rattle.network_audit.specs.Valid.{IsInRange, IsPermitted, IsValidNetwork}
pub use Rattle.network_values.proofs.LoadLemmas.{loads_kept}
pub use Rattle.network_values.proofs.StreamStates.{is_latent_branch-is}
pub use Rattle.network_values.specs.Penalties.{utility_part}
pub use Rattle.networks.proofs.Lists.{all_at}
pub use Rattle.networks.proofs.OfShape.{many_own, the_pass_of}
pub use Rattle.networks.specs.Lines.{Exchanger}
unfoldable pub use Rattle.networks.specs.Lines.{exchangers_of, own_branches}
pub use Rattle.networks.specs.Shape.{HasShape, IsExchanger, IsOfOneStream, IsPositive, Joins}
pub use Rattle.networks.specs.declared.limits.TheConstants.{MOST_LINES}
pub use Rattle.networks.specs.declared.network.Line.{Line}
pub use Rattle.networks.specs.declared.network.Network.{Network}
pub use Rattle.pieces.specs.Led.{AreLedPieces, HasSize, HasUtilityHeat, IsLedNetwork, IsStreamPiece, JoinsPieces, RunsThrough, exchange_balance, heats_with}
pub use Rattle.pieces.specs.Led.{level_in}
pub use Rattle.pieces.specs.Led.{temperature}
pub use Rattle.pieces.specs.Pieces.{Piece, course_of, courses_of, exchanger_of, exchangers_for, is_of_stream, is_stage, led_course, led_piece}
pub use Rattle.pieces.specs.Pieces.{led_stage, on_side, own_share, piece_on, share_at, share_for, share_of, size_on, source_at, sources_of, stage_of}
pub use Rattle.pieces.specs.Pieces.{stream_course}
unfoldable pub use Rattle.pieces.specs.Pieces.{network_of, own_shares, shares_of}
pub use Rattle.pieces.specs.declared.exchange.Exchange.{Exchange}
pub use Rattle.problem_table.specs.Deficit.{hot_target}
pub use Rattle.std.proofs.lemmas.Bool.{and_parts, cond-false, cond-true, eq-eqb, eqb-true, false≢true, lt-ltb, ltb-true, ne_eqb}
pub use Rattle.std.proofs.lemmas.List.{append-nil, get_or_default, length-map, map-append, reverse-append, take_all, take_more}
pub use Rattle.std.proofs.lemmas.List.Elements.{All-append, All-cons, All-head, All-map, All-nil, All-tail, All-weaker, filter_map-append}
pub use Rattle.std.proofs.lemmas.List.FromFn.{length-enumerate_from}
pub use Rattle.std.proofs.lemmas.List.Sums.{sum_by-cons, sum_by-le, sum_by-le-sum_by}
pub use Rattle.std.proofs.lemmas.Option.{cond_some, same_Some, slice_get-get_or, slice_get-map, slice_get_within}
pub use Rattle.std.proofs.lemmas.Simd.{map-map}
pub use Rattle.std.specs.List.{cons_option, enumerate_from, filter_map}
pub use Rattle.std.specs.Option.{option_map_or, option_to_list}
pub use Rattle.std.specs.Prelude.{Contains, IsTrue, nat_lt, option_map, reverse, sum_by, unwrap_or}
pub use Rattle.stream_case.proofs.CompleteLemmas.{AreStreams-IsComplete, IsPlaced-IsComplete}
pub use Rattle.stream_case.proofs.ListLemmas.{filter_map-push}
pub use Rattle.stream_case.proofs.SourceLemmas.{same_source-same, same_source-true}
pub use Rattle.stream_case.specs.Case.{IsComplete, is_forbidden, side_of}
pub use Rattle.stream_case.specs.Source.{same_source}
pub use Rattle.stream_case.specs.Stream.{IsValidStream}
pub use Rattle.stream_case.specs.Utility.{IsPlaced}
pub use Rattle.stream_case.specs.contracts.source.Side.{the_type}
pub use Rattle.stream_case.specs.declared.case.Case.{Case}
pub use Rattle.stream_case.specs.declared.limits.TheConstants.{HIGHEST_LEVEL, MOST_LOAD}
pub use Rattle.stream_case.specs.declared.source.Side.{Side}
pub use Rattle.stream_case.specs.declared.source.Source.{Source}
pub use Rattle.stream_case.specs.declared.stream.Stream.{Stream}
pub use Rattle.stream_case.specs.declared.utility.Utility.{Utility}
pub use Rattle.sums.proofs.EnumerationLemmas.{All-enumerated}
pub use Rattle.sums.proofs.OrderLemmas.{All-reverse}
pub use denote.Enum.Bare.{true_same}
