-- The words and lemmas from elsewhere that the proofs of this crate speak in, passed on from one place. Declares nothing.
pub use Rattle.certify.specs.Answers.{ArePricesOf, AreUsesOf, HasPartPrices, HoldsOfFlow, HoldsOfTransfers, IsAnswer, IsAnswerOver, IsFirstOf, flow_causes, index_of}
pub use Rattle.certify.specs.Answers.{is_span_of, own_parts, prices_of, span_of, transfer_by, transfer_causes, transfer_of, transfers_of, use_of}
unfoldable pub use Rattle.certify.specs.Checks.{checks, field_checks, is_within, kind_checks, priced_checks, span_checks}
pub use Rattle.certify.specs.Given.{cut_kind_in, entry_as, entry_by, kind_of, lengthened, report_in, with_any, with_entry}
unfoldable pub use Rattle.certify.specs.Given.{cut_kind, entry_in, number, span_at}
pub use Rattle.certify.specs.Outcome.{IsOutcome, IsReport, end_fault, grammar}
pub use Rattle.certify.specs.Permits.{HavePermits}
pub use Rattle.certify.specs.Setting.{cold_parts, hot_parts}
pub use Rattle.certify.specs.Table.{IsTableOf, IsWithSpan, bytes_of_span, index_in, same_span}
unfoldable pub use Rattle.certify.specs.Table.{bytes_of_parts}
pub use Rattle.certify.specs.declared.entry.Entry.{Entry}
pub use Rattle.certify.specs.declared.fault.ReportFault.{ReportFault}
pub use Rattle.certify.specs.declared.given.Given.{Given}
pub use Rattle.certify.specs.declared.kind.Kind.{Kind}
pub use Rattle.certify.specs.declared.limits.TheConstants.{MOST_AMOUNT, MOST_COST, MOST_DIGITS, MOST_LEVEL}
pub use Rattle.certify.specs.declared.report.Checked.{Checked}
pub use Rattle.certify.specs.declared.report.Checked.TheVariants.{No, Yes}
pub use Rattle.certify.specs.declared.report.Moved.{Moved}
pub use Rattle.certify.specs.declared.report.Priced.{Priced}
pub use Rattle.certify.specs.declared.report.Report.{Report}
pub use Rattle.certify.specs.declared.report.Span.{Span}
pub use Rattle.certify.specs.declared.report.Used.{Used}
pub use Rattle.first_fault.proofs.CheckLemmas.{Passes, none_fails}
pub use Rattle.first_fault.proofs.Reading.{Reads, end_here, fault_here, one_more, value_here}
pub use Rattle.first_fault.proofs.Steps.{Follows, Give, IsKept, all_give, given_has, nothing_gives, one_more_gives, slice_get-seam}
pub use Rattle.first_fault.specs.Checks.{Check, first_failing}
pub use Rattle.first_fault.specs.Outcome.{given_by}
pub use Rattle.grid.proofs.MakingLemmas.{AreParts-made, HoldsPlaces-IsGrid, holds_levels}
pub use Rattle.grid.proofs.PartsExist.{some_parts}
pub use Rattle.grid.proofs.PlaceLemmas.{interval_ends, interval_falls}
pub use Rattle.grid.proofs.RunLemmas.{latent_run, level_run, level_run-is, stream_run, sum-made}
pub use Rattle.grid.proofs.SizeLemmas.{IsLength-covered, IsSide, IsSide-made, length-grid}
pub use Rattle.grid.specs.Bounds.{IsBounded}
pub use Rattle.grid.specs.Grid.{IsGrid, places_of}
pub use Rattle.grid.specs.Making.{covers, made_parts, stands_at}
pub use Rattle.grid.specs.OnGrid.{IsOnPlaces}
pub use Rattle.grid.specs.Part.{AreCaseParts, AreParts, IsPartOf, IsPiece, comes_before, comes_before_source, utility_part}
pub use Rattle.grid.specs.declared.part.Part.{Part}
pub use Rattle.heat_flow.proofs.Blanks.{blank}
pub use Rattle.heat_flow.proofs.CostLemmas.{HasCost-flow}
pub use Rattle.heat_flow.proofs.CutLemmas.{cuts_refuse_flows}
pub use Rattle.heat_flow.proofs.Duality.{weak_duality}
pub use Rattle.heat_flow.proofs.PartLemmas.{HoldsOfParts-some}
pub use Rattle.heat_flow.proofs.ReachLemmas.{reach_between-among, sources_of_parts}
pub use Rattle.heat_flow.specs.Cells.{ArePermissions, source_index}
pub use Rattle.heat_flow.specs.Certificate.{IsCertified, IsCutOf, heat_of_utility, is_of_utility, utility_heat}
pub use Rattle.heat_flow.specs.Checks.{ReachesAmong}
pub use Rattle.heat_flow.specs.Cuts.{HasNoFlow, cut_side, least_at, meets, need_of, offer_of, opposite, parts_of}
pub use Rattle.heat_flow.specs.Flow.{HaveParts, IsLeastCost, KeepsRanges, cost_of, heat_at, part_index, side_cost}
pub use Rattle.heat_flow.specs.Prices.{price_at}
pub use Rattle.heat_flow.specs.Ranges.{IsWithin}
pub use Rattle.heat_flow.specs.Reach.{reach_between}
pub use Rattle.heat_flow.specs.declared.cut.Cut.{Cut}
pub use Rattle.heat_flow.specs.declared.cut.CutKind.{CutKind}
pub use Rattle.heat_flow.specs.declared.cut.CutKind.TheVariants.{Demand, Supply}
pub use Rattle.heat_flow.specs.declared.flow.Transfer.{Transfer}
pub use Rattle.indexmap.specs.IndexMap.{IndexMap, Updates, hasher_of}
pub use Rattle.keyed_index.specs.Key.{begun_by}
unfoldable pub use Rattle.keyed_index.specs.Key.{keyed_by}
pub use Rattle.sha2.specs.Hashers.{Holds256}
pub use Rattle.statements.proofs.NextLine.{nothing_left, passed_over, statement_next}
pub use Rattle.statements.proofs.PlainNumbers.{number_plain}
pub use Rattle.statements.specs.Statements.{IsPlainField, IsPlainStatement, Statement, field}
unfoldable pub use Rattle.statements.specs.Statements.{statements_of}
pub use Rattle.std.proofs.Math.ListN.{get_or-append}
pub use Rattle.std.proofs.Math.Seq.{get_or-append_seam}
pub use Rattle.std.proofs.lemmas.Bool.{and_from, and_parts, cases_Bool, cases_lt, false_from_ne_true, false≢true, true≢false}
pub use Rattle.std.proofs.lemmas.Bool.Decides.{Decides-int_eq, nat_tests}
pub use Rattle.std.proofs.lemmas.Int.{ints, to_z-of_z}
pub use Rattle.std.proofs.lemmas.List.{flat_map_more, length-take-le, take_more}
pub use Rattle.std.proofs.lemmas.List.Elements.{All-append, All-cons, All-contains, All-head, All-map, All-nil, All-push, All-tail, All-weaker}
pub use Rattle.std.proofs.lemmas.List.Elements.{filter_map-append}
pub use Rattle.std.proofs.lemmas.List.Folds.{list_any-append, position_or_len_push}
pub use Rattle.std.proofs.lemmas.List.Sums.{position_or_len_is, prefix_len-le-length}
pub use Rattle.std.proofs.lemmas.Option.{none-some, same_Some, slice_get-get_or, slice_get_past, slice_get_within}
pub use Rattle.std.specs.Cmp.{both_ways}
pub use Rattle.std.specs.Cmp.Lexicographic.{bytes_decides}
pub use Rattle.std.specs.Fmt.{signed_decimal}
pub use Rattle.std.specs.Int.{w128}
pub use Rattle.std.specs.List.{filter_map, flat_map, list_any, position_or_len}
pub use Rattle.std.specs.Option.{option_map_or, option_or}
pub use Rattle.std.specs.Prelude.{All, AllPairs, Bool, Contains, IsTrue, codes, if◌then◌else◌, is_some, pos, slice_get, true, ℤ, ◌*ℤ◌, ◌+ℤ◌, ◌-ℤ◌, ◌<ℤ◌, ◌≤ℤ◌}
pub use Rattle.stream_case.proofs.CaseLemmas.{IsName-source_name, IsSourceOf-side, length-AreStreams, source_named-source_name}
pub use Rattle.stream_case.proofs.CompleteLemmas.{AreStreams-IsComplete, IsPlaced-IsComplete, IsUtility, StaysValid-IsComplete, length-utilities}
pub use Rattle.stream_case.proofs.DigitLemmas.{integer_read}
pub use Rattle.stream_case.proofs.EndLemmas.{stream_ends-between}
pub use Rattle.stream_case.proofs.HeatLemmas.{heat-between, load-between}
pub use Rattle.stream_case.proofs.NameTests.{name-passes}
pub use Rattle.stream_case.proofs.SourceLemmas.{same_side-true}
pub use Rattle.stream_case.specs.Case.{IsComplete, IsSourceOf, completed, has_utility, source_name, standard_utility, unless_given}
unfoldable pub use Rattle.stream_case.specs.Case.{source_named}
unfoldable pub use Rattle.stream_case.specs.Digits.{integer_in}
pub use Rattle.stream_case.specs.Limits.{IsPartPrice, IsShifted}
unfoldable pub use Rattle.stream_case.specs.Name.{is_name}
pub use Rattle.stream_case.specs.Source.{is_stream, same_side}
pub use Rattle.stream_case.specs.Stream.{IsValidStream, stream_ends}
pub use Rattle.stream_case.specs.Utility.{IsPlaced, shifted_level}
pub use Rattle.stream_case.specs.declared.case.Case.{Case}
pub use Rattle.stream_case.specs.declared.limits.TheConstants.{ALL_UTILITIES}
pub use Rattle.stream_case.specs.declared.source.Side.{Side}
pub use Rattle.stream_case.specs.declared.source.Side.TheVariants.{Cold, Hot}
pub use Rattle.stream_case.specs.declared.source.Source.{Source}
pub use Rattle.stream_case.specs.declared.stream.Stream.{Stream}
pub use Rattle.stream_case.specs.declared.utility.Utility.{Utility}
pub use Rattle.sums.proofs.IntegerLemmas.{if_between, if_one-times, if_zero, int_le-from, int_le-true}
pub use Rattle.sums.proofs.ListLemmas.{All-slice_get}
pub use Rattle.sums.proofs.OrderLemmas.{AllPairs-head, AllPairs-tail}
pub use Rattle.sums.proofs.ProductLemmas.{product_within, zero_times}
pub use Rattle.sums.proofs.SumLemmas.{int_sum_by-at_most, int_sum_by-same, int_sum_by-zero, int_sum_from-grouped, int_sum_from-zero}
pub use Rattle.sums.specs.Sum.{int_sum_by, int_sum_from}
