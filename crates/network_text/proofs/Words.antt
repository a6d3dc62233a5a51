-- The words and lemmas from elsewhere that the proofs of this crate speak in, passed on from one place. Declares nothing.
pub use Rattle.first_fault.proofs.CheckLemmas.{Passes, each_passes, none_fails}
pub use Rattle.first_fault.proofs.OneOutcome.{no_value, one_fault, one_value}
pub use Rattle.first_fault.proofs.Reading.{Reads, end_here, fault_here, none_read, one_more, value_here}
pub use Rattle.first_fault.proofs.Steps.{Follows, Give, all_give_at, given_has, nothing_gives}
pub use Rattle.first_fault.specs.Checks.{first_failing}
pub use Rattle.fractions.proofs.Comparisons.{Decides-is_below, positive-is, positive_num}
pub use Rattle.fractions.proofs.Limits.{bounded_back, bounded_within}
pub use Rattle.fractions.specs.Rationals.{IsWithinLimits, Rational, fraction_text, is_below, rational_zero}
pub use Rattle.indexmap.proofs.CallerLemmas.{insert_entry-new}
pub use Rattle.indexmap.specs.IndexMap.{IndexMap, hasher_of, insert_entry}
pub use Rattle.keyed_index.specs.Key.{begun_by}
unfoldable pub use Rattle.keyed_index.specs.Key.{keyed_by}
pub use Rattle.network_text.specs.Building.{IsFresh, IsTracked, KeyedNetwork, named_branch, named_sides, own_entry}
unfoldable pub use Rattle.network_text.specs.Building.{own_entries}
pub use Rattle.network_text.specs.Checks.{has_stream, is_free_side, is_missed, is_used, misses_side}
unfoldable pub use Rattle.network_text.specs.Checks.{checks, end_checks, exchanger_checks, exchanger_field_checks, first_missing, fraction_checks, is_passed}
unfoldable pub use Rattle.network_text.specs.Checks.{joins_stream, kind_checks, misses_pass, mix_checks, mixed_checks, new_branch_checks, new_exchanger_checks}
unfoldable pub use Rattle.network_text.specs.Checks.{pass_checks, passed_checks, source_checks, split_checks, used_branch_checks}
unfoldable pub use Rattle.network_text.specs.Fractions.{denominator_in, fraction, fraction_in, is_slash, ratio_of}
pub use Rattle.network_text.specs.Given.{branch_of, branches_in, end_entry, entry_by, exchanger_entry, first_stream, kind_of, mix_entry, next, pass_entry}
pub use Rattle.network_text.specs.Given.{split_entry, with_any}
unfoldable pub use Rattle.network_text.specs.Given.{branch_at, branch_named, entry_in, exchanger_at, exchanger_named, source_at, start, with_entry}
unfoldable pub use Rattle.network_text.specs.Names.{is_branch_name, is_dotted_name}
pub use Rattle.network_text.specs.Outcome.{IsNetwork, IsNetworkOf, IsOutcome, grammar}
unfoldable pub use Rattle.network_text.specs.Printed.{HasShortLines, branch_name, exchanger_name, exchanger_names, statement_of, text_of}
pub use Rattle.network_text.specs.declared.entry.Entry.{Entry}
pub use Rattle.network_text.specs.declared.fault.NetFault.{NetFault}
pub use Rattle.network_text.specs.declared.given.Sides.{Sides}
pub use Rattle.network_text.specs.declared.kind.Kind.{Kind}
pub use Rattle.network_text.specs.declared.limits.TheConstants.{LONGEST_LINE, MOST_DIGITS}
pub use Rattle.networks.proofs.Counts.{StandsBefore, counted, find_none, none_counted, none_found, some_counted, stands_before, uncounted}
pub use Rattle.networks.proofs.LineLaws.{exchangers_of-push, few_exchangers, made_by-push, names_of-append, passage_of-front, passages_of-front}
pub use Rattle.networks.proofs.LineLaws.{passages_of-push, stream_at-front, used_by-push}
pub use Rattle.networks.proofs.Lists.{AllPairs-take, all_at, enumerate_from-push, two_pushed}
pub use Rattle.networks.proofs.OfShape.{IsLineOf, all_made, declared_parts, line_at, line_of, line_read, made_no_more, made_there, many_own, own_exchanger}
pub use Rattle.networks.proofs.OfShape.{passed_parts, stream_at-get_or, stream_at-take, streams_first, used_before, used_parts, used_there, used_within}
pub use Rattle.networks.specs.Lines.{Exchanger, exchanger_of, makes, members, own_branch, passage_of, same_passage, uses}
unfoldable pub use Rattle.networks.specs.Lines.{exchangers_of, made_by, names_of, own_branches, passages_of, stream_at, used_by}
pub use Rattle.networks.specs.Shape.{AreExchangers, AreMadeBeforeUse, AreMadeInOrder, AreNamed, ArePassedOnce, ArePassedWhenDeclared, AreUsedOnce}
pub use Rattle.networks.specs.Shape.{HasPositiveSize, HasShape, IsExchanger, IsOfOneStream, IsPositive, Joins, KeepsCounts, PassesDeclared, made_before, passes}
pub use Rattle.networks.specs.declared.few.AtMostTwo.{AtMostTwo}
pub use Rattle.networks.specs.declared.limits.TheConstants.{MOST_EXCHANGERS, MOST_STATEMENTS}
pub use Rattle.networks.specs.declared.network.Branch.{Branch}
pub use Rattle.networks.specs.declared.network.Line.{Line}
pub use Rattle.networks.specs.declared.network.Network.{Network}
pub use Rattle.networks.specs.declared.network.Passage.{Passage}
pub use Rattle.statements.proofs.PlainStatements.{name_plain, plain_statement, statements-back, word_plain}
pub use Rattle.statements.proofs.Positions.{index_within, is_some-position, none_any, position-some}
pub use Rattle.statements.specs.Statements.{IsPlainField, IsPlainStatement, IsVisible, Statement, field, statement_text}
unfoldable pub use Rattle.statements.specs.Statements.{fields_text, statements_of}
pub use Rattle.std.proofs.Math.Bool.{or-true}
pub use Rattle.std.proofs.lemmas.Bool.{and_from, and_parts, eqb-false, false_from_ne_true, false≢true, not-false, not-true, or_cases, or_parts, or_right}
pub use Rattle.std.proofs.lemmas.Bool.Decides.{nat_tests}
pub use Rattle.std.proofs.lemmas.Fmt.{length-decimal-le_wide}
pub use Rattle.std.proofs.lemmas.Int.{ints}
pub use Rattle.std.proofs.lemmas.List.{append-nil, append_assoc, get_or-append-add, get_or-map, get_or_append_left, get_or_at, get_or_default, length-map}
pub use Rattle.std.proofs.lemmas.List.{map-append, map-id, take-append-le, take-map, take_all, take_more, take_rest}
pub use Rattle.std.proofs.lemmas.List.Elements.{All-append, All-cons, All-from_recursion, All-head, All-map, All-nil, All-push, All-tail, All-weaker}
pub use Rattle.std.proofs.lemmas.List.Folds.{find_at, list_any-append, list_any_none}
pub use Rattle.std.proofs.lemmas.List.FromFn.{get_or-enumerate_from, get_or-range_with_len, length-enumerate_from, length-range_with_len}
pub use Rattle.std.proofs.lemmas.List.Quantifiers.{all_pairs_push}
pub use Rattle.std.proofs.lemmas.List.Sums.{position_or_len_is, sum_by-append, sum_by-cons}
pub use Rattle.std.proofs.lemmas.Map.Made.{is_some-lookup}
pub use Rattle.std.proofs.lemmas.Option.{get_or_from_slice_get, same_Some, slice_get-map, slice_get_within}
pub use Rattle.std.proofs.lemmas.Simd.{map-map}
pub use Rattle.std.specs.Cmp.Lexicographic.{bytes_decides}
pub use Rattle.std.specs.Fmt.{signed_decimal}
pub use Rattle.std.specs.List.{after_first, before_first, cons_option, enumerate_from, list_any, position_or_len, range_with_len}
pub use Rattle.std.specs.Map.{keys_of}
pub use Rattle.std.specs.Option.{ForSome, option_to_list}
pub use Rattle.stream_case.proofs.CaseLemmas.{IsName-source_name, IsSourceOf-side, length-AreStreams, source_named-source_name}
pub use Rattle.stream_case.proofs.CompleteLemmas.{StaysValid, StaysValid-IsComplete}
pub use Rattle.stream_case.proofs.DigitLemmas.{integer_read, natural_read}
pub use Rattle.stream_case.proofs.DistinctLemmas.{AllPairs-across, AllPairs-back, AllPairs-before, AllPairs-front, no_place_of, other_name, place_of}
pub use Rattle.stream_case.proofs.ListLemmas.{All-front, none_there, slice_get-append}
pub use Rattle.stream_case.proofs.NameTests.{name-passes, passed-name}
pub use Rattle.stream_case.proofs.SourceLemmas.{is_on-true, own_side, same_source-same, same_source-true}
pub use Rattle.stream_case.specs.Case.{IsComplete, IsSourceOf, side_of, source_name}
unfoldable pub use Rattle.stream_case.specs.Case.{is_on, source_named}
unfoldable pub use Rattle.stream_case.specs.Digits.{integer_in, natural_in}
pub use Rattle.stream_case.specs.Name.{IsAnyName, IsName}
pub use Rattle.stream_case.specs.Source.{same_source}
pub use Rattle.stream_case.specs.declared.case.Case.{Case}
pub use Rattle.stream_case.specs.declared.source.Side.{Side}
pub use Rattle.stream_case.specs.declared.source.Source.{Source}
pub use Rattle.stream_case.specs.declared.stream.Stream.{Stream}
pub use Rattle.stream_case.specs.declared.utility.Utility.{Utility}
pub use Rattle.sums.proofs.CountLemmas.{count_by-cons}
pub use Rattle.sums.proofs.EnumerationLemmas.{map-enumerate_from_item, range_with_len-append}
pub use Rattle.sums.proofs.ListLemmas.{slice_get_push}
pub use Rattle.sums.proofs.OrderLemmas.{AllPairs-map, AllPairs-nil}
