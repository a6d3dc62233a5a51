-- The words and lemmas from elsewhere that the proofs of this crate speak in, passed on from one place. Declares nothing.
pub use Rattle.corner_flow.proofs.SideLemmas.{AreStandardParts, AreStandardParts-parts, IsStandardPart, IsUtilityHere}
pub use Rattle.corner_flow.proofs.StandardLemmas.{end_of}
pub use Rattle.grid.proofs.HeatLemmas.{part_over}
pub use Rattle.grid.proofs.OnGridLemmas.{parts_on_grid}
pub use Rattle.grid.specs.Bounds.{IsBounded}
pub use Rattle.grid.specs.Part.{AreCaseParts, AreParts, utility_part}
pub use Rattle.grid.specs.declared.part.Part.{Part}
pub use Rattle.heat_flow.proofs.Blanks.{blank}
pub use Rattle.heat_flow.proofs.CutLemmas.{cuts_refuse_flows}
pub use Rattle.heat_flow.proofs.PartLemmas.{HoldsOfParts-some}
pub use Rattle.heat_flow.specs.Certificate.{HoldsOfParts}
pub use Rattle.heat_flow.specs.Cuts.{HasNoFlow, IsCut, cut_side, joins, least_at, meets, need_of, offer_of, opposite, parts_of}
pub use Rattle.heat_flow.specs.Flow.{IsHeatFlow, IsLeastCost, KeepsRanges, cost_of, heat_at, part_index, side_cost}
pub use Rattle.heat_flow.specs.Prices.{price_at}
pub use Rattle.heat_flow.specs.Ranges.{IsWithin}
pub use Rattle.heat_flow.specs.Reach.{both_reach, part_reaches, passes_heat, reach_between}
pub use Rattle.heat_flow.specs.declared.cut.Cut.{Cut}
pub use Rattle.heat_flow.specs.declared.flow.Transfer.{Transfer}
pub use Rattle.problem_table.proofs.SideLemmas.{sum_side-heat}
pub use Rattle.std.proofs.Math.IntN.{*ℤ-zero, *ℤ_comm}
pub use Rattle.std.proofs.Math.Nat.{le-div_iff_mul-le}
pub use Rattle.std.proofs.lemmas.Bool.{and_from, and_left, and_right, both_ways, cases_eq, cases_lt, eq-eqb, ne_eqb, true≢false}
pub use Rattle.std.proofs.lemmas.Bool.Decides.{nat_tests}
pub use Rattle.std.proofs.lemmas.Int.{by_lt_z, ints, to_z-of_z}
pub use Rattle.std.proofs.lemmas.List.{append-nil, append_assoc, get_or-append-add, get_or_past, length-append, length-map, map-append, same_lists}
pub use Rattle.std.proofs.lemmas.List.Elements.{All-append, All-cons, All-drop, All-filter, All-from_get_or, All-head, All-map, All-nil, All-push, All-set}
pub use Rattle.std.proofs.lemmas.List.Elements.{All-tail, All-weaker, filter-append}
pub use Rattle.std.proofs.lemmas.List.Folds.{list_any_at, list_any_none}
pub use Rattle.std.proofs.lemmas.List.Kept.{AllPairs-filter}
pub use Rattle.std.proofs.lemmas.List.Sums.{count_by-le-length, length-filter, sum_by-append}
pub use Rattle.std.proofs.lemmas.Option.{get_or_from_slice_get, same_Some, slice_get-get_or, slice_get-map, slice_get_past, slice_get_within}
pub use Rattle.std.proofs.lemmas.Result.{IfOk-weaker}
pub use Rattle.std.proofs.lemmas.Str.Parse.{numerals_by_value, tells_by_index}
pub use Rattle.std.specs.Char.{is_ascii_alphanumeric}
pub use Rattle.std.specs.Fmt.{decimal}
pub use Rattle.std.specs.Int.{IsInRange, is_in_range, w128}
pub use Rattle.std.specs.Int.RustNames.{unsigned_abs}
pub use Rattle.std.specs.List.{range_with_len}
pub use Rattle.std.specs.Option.{option_to_list}
pub use Rattle.std.specs.Ordering.{int_eq}
pub use Rattle.std.specs.Prelude.{All, AllPairs, Bool, IsSome, IsTrue, MatchOption, MatchResult, SomeIff, codes, count_by, filter, if◌then◌else◌, neg_ℤ}
pub use Rattle.std.specs.Prelude.{option_map, pos, set, slice_get, ℤ, ◌*ℤ◌, ◌++◌, ◌+ℤ◌, ◌-ℤ◌, ◌<ℤ◌, ◌==◌, ◌≤ℤ◌}
pub use Rattle.std.specs.Result.{result_ok}
pub use Rattle.stream_case.proofs.CaseLemmas.{length-AreStreams}
pub use Rattle.stream_case.proofs.CompleteLemmas.{AreStreams-IsComplete}
pub use Rattle.stream_case.proofs.HeatLemmas.{heat_over-between}
pub use Rattle.stream_case.proofs.StandardUtilities.{some_utility, standard_side}
pub use Rattle.stream_case.specs.Case.{IsComplete, IsRightlyNamed, IsStandard, IsUnreserved, IsValid, IsValidForbid, completed, is_forbidden, names_of, side_of}
pub use Rattle.stream_case.specs.Case.{standard_utility}
pub use Rattle.stream_case.specs.Limits.{IsBetween, IsContribution, IsPrice, IsTemperature}
pub use Rattle.stream_case.specs.Name.{IsName, is_name_byte}
pub use Rattle.stream_case.specs.Source.{is_stream, same_side, same_source}
pub use Rattle.stream_case.specs.Stream.{HasValidStreams, IsLatent, IsSensible, IsValidStream, count_on, heat_over, stream_with}
pub use Rattle.stream_case.specs.Utility.{IsValidUtility}
pub use Rattle.stream_case.specs.declared.case.Case.{Case}
pub use Rattle.stream_case.specs.declared.case.Forbid.{Forbid}
pub use Rattle.stream_case.specs.declared.limits.TheConstants.{ALL_STREAMS_HEAT, HIGHEST_TEMPERATURE, MOST_CONTRIBUTION, MOST_PARTS}
pub use Rattle.stream_case.specs.declared.source.Side.{Side}
pub use Rattle.stream_case.specs.declared.source.Side.TheVariants.{Cold, Hot}
pub use Rattle.stream_case.specs.declared.source.Source.{Source}
pub use Rattle.stream_case.specs.declared.stream.Stream.{Stream}
pub use Rattle.stream_case.specs.declared.utility.Utility.{Utility}
pub use Rattle.study.specs.Chords.{IsChord, IsChordEnd, IsGap, IsSmallChord, chord_at}
pub use Rattle.study.specs.Cost.{IsCostOf}
pub use Rattle.study.specs.CostCurve.{HasFlowWith, IsCostCurve, IsPoint, IsPointOf, IsSmallPoint, IsTaken}
pub use Rattle.study.specs.CostRange.{IsCost}
pub use Rattle.study.specs.Draws.{draw, next_state, state_after}
pub use Rattle.study.specs.Plan.{IsSweepPlan, contribution_at, has_row}
pub use Rattle.study.specs.Priced.{HasNoFlowAt, IsLeastCostAt, price_of, priced, priced_part, prices_with}
pub use Rattle.study.specs.Row.{OneRow, case_with, utility_with, with_contribution}
pub use Rattle.study.specs.Sample.{drawn_forbids, drawn_high, drawn_low, drawn_stream, drawn_streams, least_temperature, pair_of, sample, stream_name}
pub use Rattle.study.specs.SampleRow.{OneSampleRow, completed_sample}
pub use Rattle.study.specs.Segments.{AreSegments, CostsWith, IsSegment, on_line}
pub use Rattle.study.specs.StudyAnswers.{AreSpanSegments, IsItemAnswer, OneAnswer, RisesFall}
pub use Rattle.study.specs.Sweep.{AreRows, OneSweep}
pub use Rattle.study.specs.declared.chords.Chord.{Chord}
pub use Rattle.study.specs.declared.cost_curve.Point.{Point}
pub use Rattle.study.specs.declared.limits.TheConstants.{FORBID_CHANCE, MOST_ROWS, MOST_SAMPLE_STREAMS, SAMPLE_CONTRIBUTION}
pub use Rattle.study.specs.declared.plan.SweepPlan.{SweepPlan}
pub use Rattle.study.specs.declared.priced.PricedCase.{PricedCase}
pub use Rattle.study.specs.declared.row.SweepRow.{SweepRow}
pub use Rattle.study.specs.declared.sample_targets.SampleRow.{SampleRow}
pub use Rattle.study.specs.declared.study_answer.Segment.{Segment}
pub use Rattle.study.specs.declared.study_answer.StudyAnswer.{StudyAnswer}
pub use Rattle.study.specs.declared.study_answer.StudyAnswer.TheVariants.{Cost, Segments}
pub use Rattle.study_text.specs.Study.{IsItem, case_prices}
pub use Rattle.study_text.specs.declared.study.StudyItem.{StudyItem}
pub use Rattle.study_text.specs.declared.study.StudyItem.TheVariants.{Scenario, Span}
pub use Rattle.sums.proofs.CountLemmas.{count_by-map}
pub use Rattle.sums.proofs.EnumerationLemmas.{range_with_len-append}
pub use Rattle.sums.proofs.IntegerLemmas.{if_between, int_le-from}
pub use Rattle.sums.proofs.ListLemmas.{All-slice_get, slice_get-append}
pub use Rattle.sums.proofs.OrderLemmas.{AllPairs-append, AllPairs-head, AllPairs-map, AllPairs-nil, AllPairs-tail}
pub use Rattle.sums.proofs.ProductLemmas.{*ℤ-+ℤ, *ℤ--ℤ, *ℤ-≤ℤ_left, *ℤ-≤ℤ_right, *ℤ_assoc, +ℤ-*ℤ, -ℤ-*ℤ, neg_ℤ-*ℤ, one_times, product_within, ≤ℤ_from_*ℤ}
pub use Rattle.sums.proofs.SumLemmas.{int_sum_by-le, int_sum_by-not_negative, int_sum_from-le_each, int_sum_from-single, int_sum_from-zero}
pub use Rattle.sums.specs.Sum.{int_sum_by, int_sum_from}
pub use Rattle.transport.proofs.CaseNetLemmas.{IsCaseNet-alike}
pub use Rattle.transport.specs.CaseCost.{IsCaseCost, IsCaseCut}
pub use Rattle.transport.specs.CaseNet.{IsCaseNet}
