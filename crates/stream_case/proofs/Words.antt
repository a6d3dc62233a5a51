-- The words and lemmas from elsewhere that the proofs of this crate speak in, passed on from one place. Declares nothing.
pub use Rattle.std.proofs.lemmas.Bool.{and_parts, eq-eqb, eqb-true, false_from_ne_true, false≢true}
pub use Rattle.std.proofs.lemmas.Bool.Decides.{Decides-and, Decides-int_eq, Decides-like, nat_tests, not_from_Decides}
pub use Rattle.std.proofs.lemmas.Int.{clamps, ints, to_z-of_z}
pub use Rattle.std.proofs.lemmas.Int.Digits.{digits_more, digits_value_more}
pub use Rattle.std.proofs.lemmas.List.{append-nil, append_assoc, drop-replicate, get_or-append-add, get_or-take, get_or_append_left, get_or_default}
pub use Rattle.std.proofs.lemmas.List.{length-append, length-map, length-take, length-take-le, map-append, take_all, take_more}
pub use Rattle.std.proofs.lemmas.List.Elements.{All-append, All-cons, All-drop, All-from_recursion, All-head, All-map, All-nil, All-tail, All-take, All-weaker}
pub use Rattle.std.proofs.lemmas.List.Elements.{filter_map-append}
pub use Rattle.std.proofs.lemmas.List.Folds.{list_any_at}
pub use Rattle.std.proofs.lemmas.List.Quantifiers.{all_pairs_push}
pub use Rattle.std.proofs.lemmas.List.Sums.{AllPass-from_list_all, fold-append, list_all-from_AllPass, position_or_len_is, sum_by-append, sum_by-cons}
pub use Rattle.std.proofs.lemmas.Nat.{mul-le}
pub use Rattle.std.proofs.lemmas.Option.{none-some, same_Some}
pub use Rattle.std.proofs.lemmas.Str.{IsUtf8-from_ascii}
pub use Rattle.std.proofs.lemmas.Str.Ascii.{IsAscii-from_all}
pub use Rattle.std.specs.Bool.{Decides}
pub use Rattle.std.specs.Char.{digit_value, is_ascii_alphanumeric, is_ascii_digit}
pub use Rattle.std.specs.Cmp.Lexicographic.{bytes_decides, pointwise}
pub use Rattle.std.specs.Fmt.{decimal}
pub use Rattle.std.specs.List.{cons_option, filter_map, prefix_len}
pub use Rattle.std.specs.Option.{option_map_or, option_to_list}
pub use Rattle.std.specs.Ordering.{int_eq}
pub use Rattle.std.specs.Prelude.{All, Err, IsTrue, Ok, Result, codes, if◌then◌else◌, nat_eq, option_map, slice_get, ℤ, ◌&&◌, ◌*ℤ◌, ◌-ℤ◌, ◌≤ℤ◌}
pub use Rattle.std.specs.Result.{IsOk, MatchResult}
pub use Rattle.std.specs.Str.{IsUtf8, all_ascii_digits, bytes_eq}
pub use Rattle.std.specs.Str.Parse.{AllDigits, digits_value}
pub use Rattle.stream_case.specs.Case.{IsSourceOf, IsStandard, names_of, outer_of, outermost, side_of, source_name, standard_utility, with_utilities}
unfoldable pub use Rattle.stream_case.specs.Case.{is_on, source_named}
pub use Rattle.stream_case.specs.Digits.{IsOfDigits}
unfoldable pub use Rattle.stream_case.specs.Digits.{integer_in, natural_in, negative}
pub use Rattle.stream_case.specs.Limits.{IsBetween, IsContribution, IsLength, IsLevel, IsSensibleHeat, IsShifted, IsStreamHeat, IsTemperature}
pub use Rattle.stream_case.specs.Name.{IsAnyName, IsDottedName, IsName, IsStored, is_name_byte}
unfoldable pub use Rattle.stream_case.specs.Name.{is_name}
pub use Rattle.stream_case.specs.Shift.{shifted}
pub use Rattle.stream_case.specs.Source.{IsRightWay, is_hot, is_right_way, is_side, same_side, same_source}
pub use Rattle.stream_case.specs.Stream.{AreStreams, HasValidStreams, IsLatent, IsSensible, IsValidStream, count_on, high_end, low_end, stream_ends}
pub use Rattle.stream_case.specs.Utility.{IsPlaced, IsValidUtility, shifted_level}
pub use Rattle.stream_case.specs.contracts.source.Side.{the_type}
pub use Rattle.stream_case.specs.declared.case.Case.{Case}
pub use Rattle.stream_case.specs.declared.case.Forbid.{Forbid}
pub use Rattle.stream_case.specs.declared.limits.TheConstants.{ALL_STREAMS, ALL_UTILITIES, HIGHEST_SHIFTED, LONGEST_RANGE, LOWEST_SHIFTED, MOST_CP}
pub use Rattle.stream_case.specs.declared.limits.TheConstants.{MOST_FORBIDS, MOST_STREAMS}
pub use Rattle.stream_case.specs.declared.source.Side.{Side}
pub use Rattle.stream_case.specs.declared.source.Side.TheVariants.{Cold, Hot}
pub use Rattle.stream_case.specs.declared.source.Source.{Source}
pub use Rattle.stream_case.specs.declared.stream.Stream.{Stream}
pub use Rattle.stream_case.specs.declared.utility.Utility.{Utility}
pub use denote.Enum.Bare.{same_true, sameb, true_same}
