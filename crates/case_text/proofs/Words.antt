-- The words and lemmas from elsewhere that the proofs of this crate speak in, passed on from one place. Declares nothing.
pub use Rattle.case_text.specs.Additions.{HasFewSources}
pub use Rattle.case_text.specs.Checks.{contribution_causes}
unfoldable pub use Rattle.case_text.specs.Checks.{end_checks, is_reserved, is_reserved_from, is_source, is_taken}
pub use Rattle.case_text.specs.Given.{Given, KeyedGiven, case_of, entry_by, nothing, source_at, stream_data, stream_of, utility_data, utility_of, with_entry}
pub use Rattle.case_text.specs.Outcome.{IsCase, IsOutcome, end_fault, grammar}
pub use Rattle.case_text.specs.Printed.{forbid_row, own_contribution, own_load, stream_row, utility_kind, utility_row}
unfoldable pub use Rattle.case_text.specs.Printed.{contribution_field, load_field, printed_rows}
pub use Rattle.case_text.specs.Rows.{kind_in}
unfoldable pub use Rattle.case_text.specs.Rows.{kind_of}
pub use Rattle.case_text.specs.declared.entry.Entry.{Entry}
pub use Rattle.case_text.specs.declared.entry.StreamData.{StreamData}
pub use Rattle.case_text.specs.declared.entry.UtilityData.{UtilityData}
pub use Rattle.case_text.specs.declared.fault.CaseWhy.{CaseWhy}
pub use Rattle.case_text.specs.declared.kind.Kind.{Kind}
pub use Rattle.first_fault.proofs.CheckLemmas.{Passes, none_fails}
pub use Rattle.first_fault.proofs.OneOutcome.{fault_or_value, no_value, one_fault, one_value}
pub use Rattle.first_fault.proofs.Steps.{Follows, Give, IsKept, all_give, given_has, nothing_gives, one_more_gives}
pub use Rattle.first_fault.specs.Checks.{first_failing}
pub use Rattle.first_fault.specs.Outcome.{given_by}
pub use Rattle.indexmap.proofs.CallerLemmas.{insert_entry-new}
pub use Rattle.rows.proofs.PrintedNumbers.{IsPrintable, contribution, heat, load, number_read, optional_read, price, stream_flow_rate, temperature}
pub use Rattle.rows.proofs.Seams.{All-seam, AllPairs-seam, length-seam}
pub use Rattle.rows.proofs.SharedRows.{contribution-passes, contribution-read, passed-contribution, stream_row-kind}
pub use Rattle.rows.proofs.AcceptedStreams.{passed-latent, passed-sensible, stream-is_valid}
pub use Rattle.rows.proofs.Tests.{Decides-int_le, Decides-is_own_contribution, Decides-neither, Decides-none, passed-room, passed-within, room-passes}
pub use Rattle.rows.proofs.Tests.{within-passes}
pub use Rattle.rows.specs.Fields.{field}
unfoldable pub use Rattle.rows.specs.Fields.{are_empty, is_number, is_number_or_empty, is_passed_over, number, optional_number}
pub use Rattle.rows.specs.Numbers.{is_flow_rate_beside}
unfoldable pub use Rattle.rows.specs.Numbers.{is_own_contribution, is_own_load}
pub use Rattle.rows.specs.Printed.{contribution_row}
pub use Rattle.rows.specs.Rows.{Row}
unfoldable pub use Rattle.rows.specs.Rows.{rows_of}
pub use Rattle.rows.specs.Text.{row_text, rows_text}
pub use Rattle.rows.specs.declared.fault.RowFault.{RowFault}
pub use Rattle.std.proofs.lemmas.Bool.{or_parts}
pub use Rattle.std.proofs.lemmas.Bool.Decides.{Decides-and, Decides-int_eq, Decides-like, Decides-not, nat_tests}
pub use Rattle.std.proofs.lemmas.Int.{ints}
pub use Rattle.std.proofs.lemmas.List.{append-nil, length-map, map-append}
pub use Rattle.std.proofs.lemmas.List.Concat.{flat_map-append}
pub use Rattle.std.proofs.lemmas.List.Elements.{All-append, All-cons, All-map, All-nil, All-push, All-weaker}
pub use Rattle.std.proofs.lemmas.List.Folds.{flat_map-map, list_any-append}
pub use Rattle.std.proofs.lemmas.List.Quantifiers.{all_pairs_push}
pub use Rattle.std.proofs.lemmas.List.Sums.{sum_by-append, sum_by-cons, sum_by_push}
pub use Rattle.std.proofs.lemmas.Map.Made.{is_some-lookup}
pub use Rattle.std.proofs.lemmas.Option.{slice_get-map, slice_get_within}
pub use Rattle.std.proofs.lemmas.Simd.{map-map}
pub use Rattle.std.specs.Cmp.Lexicographic.{bytes_decides}
pub use Rattle.std.specs.List.{flat_map, list_any}
pub use Rattle.std.specs.Map.{keys_of, lookup}
pub use Rattle.std.specs.Ordering.{int_eq}
pub use Rattle.std.specs.Prelude.{codes}
pub use Rattle.std.specs.Str.{bytes_eq}
pub use Rattle.stream_case.proofs.CaseLemmas.{IsName-source_name, IsSourceOf-side, count_on-add, length-AreStreams, no_contribution, one_more_on, range_of}
pub use Rattle.stream_case.proofs.CaseLemmas.{source_named-source_name}
pub use Rattle.stream_case.proofs.DistinctLemmas.{AllPairs-across, AllPairs-back, AllPairs-front}
pub use Rattle.stream_case.proofs.ListLemmas.{All-back, All-front, none_there, position-map}
pub use Rattle.stream_case.proofs.NameTests.{name-passes, passed-name}
pub use Rattle.stream_case.proofs.SourceLemmas.{Decides-is_right_way, is_side-true, own_side, same_source-same, same_source-true}
pub use Rattle.stream_case.specs.Case.{IsRightlyNamed, IsUnreserved, IsValid, IsValidForbid, first_source, is_forbidden, names_of, side_of, source_name}
unfoldable pub use Rattle.stream_case.specs.Case.{source_named}
pub use Rattle.stream_case.specs.Limits.{IsContribution, IsHeat}
pub use Rattle.stream_case.specs.Name.{IsName}
unfoldable pub use Rattle.stream_case.specs.Name.{is_name}
pub use Rattle.stream_case.specs.Source.{IsRightWay, same_side, same_source}
pub use Rattle.stream_case.specs.Stream.{IsLatent, IsSensible, IsValidStream, count_on}
pub use Rattle.stream_case.specs.Utility.{IsValidUtility}
pub use Rattle.stream_case.specs.declared.case.Case.{Case}
pub use Rattle.stream_case.specs.declared.case.Forbid.{Forbid}
pub use Rattle.stream_case.specs.declared.limits.TheConstants.{ALL_STREAMS, MOST_FORBIDS, MOST_STREAMS, MOST_UTILITIES}
pub use Rattle.stream_case.specs.declared.source.Side.{Side}
pub use Rattle.stream_case.specs.declared.source.Source.{Source}
pub use Rattle.stream_case.specs.declared.stream.Stream.{Stream}
pub use Rattle.stream_case.specs.declared.utility.Utility.{Utility}
pub use Rattle.sums.proofs.CountLemmas.{count_by-map}
pub use Rattle.sums.proofs.OrderLemmas.{AllPairs-append}
