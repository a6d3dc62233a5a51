-- The words and lemmas from elsewhere that the proofs of this crate speak in, passed on from one place. Declares nothing.
pub use Rattle.design_lines.specs.Drawn.{Course, all_branches, course_branches, course_lines, courses_lines, declared_line, drawn, made_branches, numbered}
pub use Rattle.design_lines.specs.Drawn.{stage_branches}
pub use Rattle.design_lines.specs.Led.{AreStages, IsShareOf, turns}
pub use Rattle.design_lines.specs.Names.{branch_name, exchanger_name}
unfoldable pub use Rattle.design_lines.specs.Stages.{behind_splits, mixes, passes, rest_branch, share_branches, splits, stage_end, stage_lines}
pub use Rattle.design_lines.specs.declared.stage.Share.{Share}
pub use Rattle.fractions.proofs.Products.{plus-times}
pub use Rattle.fractions.proofs.Ratios.{plus-ratio_same_den, ratio-zero}
pub use Rattle.fractions.proofs.Sums.{minus-plus, plus-zero, plus_assoc, plus_comm, zero-plus}
pub use Rattle.fractions.specs.Rationals.{IsAtMost, IsBelow, Rational, rational_zero}
unfoldable pub use Rattle.fractions.specs.Rationals.{minus, plus, ratio, times}
pub use Rattle.network_values.proofs.LineLemmas.{mix_determined, mixed_positive, pass_determined}
pub use Rattle.network_values.proofs.ValuationLemmas.{valuation_more, valuation_start}
pub use Rattle.network_values.specs.Made.{LeavesRoom, first_part, made_values, mixed_value, passed_value, second_part}
pub use Rattle.network_values.specs.Sides.{enters, leaves, run_between}
pub use Rattle.network_values.specs.Values.{IsFullEnd, IsMix, IsPass, IsValuation, IsWholeValuation, Valuation, change, ends, first_state, first_value}
pub use Rattle.network_values.specs.Values.{full_size, last_state, last_value, no_value, value_at}
unfoldable pub use Rattle.network_values.specs.Values.{branch_side, duty_at, ended_by, ended_streams}
pub use Rattle.network_values.specs.declared.values.BranchValue.{BranchValue}
pub use Rattle.stream_case.proofs.ListLemmas.{All-front}
pub use Rattle.sums.proofs.OrderLemmas.{AllPairs-map}
pub use Rattle.networks.proofs.Lists.{all_at, enumerate_from-push}
pub use Rattle.networks.proofs.OfShape.{count-passages, line_of, many_own, stream_at-get_or}
pub use Rattle.networks.specs.Lines.{Exchanger, exchanger_of, is_pass_of, makes, own_branch, uses}
unfoldable pub use Rattle.networks.specs.Lines.{exchangers_of, made_by, names_of, own_branches, stream_at, used_by}
pub use Rattle.networks.specs.Shape.{AreMadeBeforeUse, AreMadeInOrder, AreNamed, ArePassedOnce, ArePassedWhenDeclared, AreUsedOnce, HasPositiveSize, HasShape}
pub use Rattle.networks.specs.Shape.{IsExchanger, IsOfOneStream, Joins, PassesDeclared}
pub use Rattle.networks.specs.declared.network.Branch.{Branch}
pub use Rattle.networks.specs.declared.network.Line.{Line}
pub use Rattle.networks.specs.declared.network.Network.{Network}
pub use Rattle.std.proofs.Math.Seq.{drop-cons, take-append_seam}
pub use Rattle.std.proofs.lemmas.Bool.Decides.{nat_tests}
pub use Rattle.std.proofs.lemmas.Fmt.{decimal_injective, decimal_is_IsNumeral, length-decimal-le}
pub use Rattle.std.proofs.lemmas.List.{append-nil, drop_all, get_or-append-add, get_or_append_left, length-map, length-take-le, map-append, reverse-append}
pub use Rattle.std.proofs.lemmas.List.{take_all, take_more}
pub use Rattle.std.proofs.lemmas.List.Concat.{flat_map-append}
pub use Rattle.std.proofs.lemmas.List.Elements.{All-append, All-cons, All-head, All-map, All-nil, All-tail, All-weaker, filter_map-append}
pub use Rattle.std.proofs.lemmas.List.FromFn.{get_or-enumerate_from, get_or-map-range_with_len, length-enumerate_from, length-map-range_with_len}
pub use Rattle.std.proofs.lemmas.List.Sums.{sum_by-append, sum_by-cons, sum_by-le}
pub use Rattle.std.proofs.lemmas.Option.{get_or_from_slice_get, same_Some, slice_get-get_or, slice_get-map, slice_get_within}
pub use Rattle.std.proofs.lemmas.Simd.{map-map}
pub use Rattle.std.proofs.lemmas.Str.Parse.{tells_digits}
pub use Rattle.std.specs.Char.{is_ascii_alphanumeric}
pub use Rattle.std.specs.Fmt.{decimal}
pub use Rattle.std.specs.Int.{IsInRange}
pub use Rattle.std.specs.List.{cons_option, enumerate_from, filter_map, flat_map, range_with_len}
pub use Rattle.std.specs.Option.{option_to_list}
pub use Rattle.std.specs.Prelude.{Contains, IsTrue, Option, count_by, option_map, reverse, sum_by, unwrap_or}
pub use Rattle.std.specs.Str.Parse.{AllDigits}
pub use Rattle.stream_case.proofs.CaseLemmas.{IsSourceOf-side}
pub use Rattle.stream_case.proofs.CompleteLemmas.{AreStreams-IsComplete, StaysValid-IsComplete}
pub use Rattle.stream_case.proofs.DistinctLemmas.{AllPairs-front}
pub use Rattle.stream_case.proofs.ListLemmas.{filter_map-push}
pub use Rattle.stream_case.specs.Case.{IsComplete, IsSourceOf, side_of}
pub use Rattle.stream_case.specs.Name.{IsAnyName, IsDottedName, IsName, is_name_byte}
pub use Rattle.stream_case.specs.Stream.{AreSensible, AreStreams, IsSensible, IsValidStream}
pub use Rattle.stream_case.specs.declared.case.Case.{Case}
pub use Rattle.stream_case.specs.declared.source.Side.{Side}
pub use Rattle.stream_case.specs.declared.stream.Stream.{Stream}
pub use Rattle.stream_case.specs.declared.utility.Utility.{Utility}
pub use Rattle.sums.proofs.CountLemmas.{count_by-cons}
pub use Rattle.sums.proofs.EnumerationLemmas.{All-enumerated, map-enumerate_from_item, range_with_len-append}
pub use Rattle.sums.proofs.OrderLemmas.{AllPairs-append}
