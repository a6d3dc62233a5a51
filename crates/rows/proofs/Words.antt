-- The words and lemmas from elsewhere that the proofs of this crate speak in, passed on from one place. Declares nothing.
pub use Rattle.csv.proofs.ReadFacts.{rows-end, rows-more}
pub use Rattle.csv.proofs.RoundTrip.{read-write-many}
pub use Rattle.csv.specs.Reading.{ReadRecord, Ready, default_config, is_flexible, reader_headers, reader_state, records_next, took_first}
unfoldable pub use Rattle.csv.specs.Reading.{Reached, records_from, strip_bom}
pub use Rattle.csv.specs.Writing.{default_writer, needs_byte}
pub use Rattle.csv.specs.declared.parser.Action.{Action}
pub use Rattle.csv.specs.declared.parser.Config.{Config}
pub use Rattle.csv.specs.declared.parser.State.{State}
pub use Rattle.csv.specs.declared.parser.Terminator.{Terminator}
pub use Rattle.csv.specs.declared.reader.Headers.{Headers}
pub use Rattle.csv.specs.declared.reader.Reader.{Reader}
unfoldable pub use Rattle.rows.specs.Fields.{field, is_number, is_number_or_empty, number, optional_number}
unfoldable pub use Rattle.rows.specs.Numbers.{is_flow_rate, is_load, is_own_contribution, is_temperature, is_within, number_in}
pub use Rattle.rows.specs.Printed.{contribution_row, optional_field, stream_kind, stream_row}
unfoldable pub use Rattle.rows.specs.Rows.{Row, rows_of}
unfoldable pub use Rattle.rows.specs.Text.{fields_text, row_text, rows_text}
pub use Rattle.rows.specs.declared.numbers.TheConstants.{MOST_DIGITS}
pub use Rattle.std.proofs.lemmas.Bool.Decides.{Decides-and, Decides-by_and, Decides-like, Decides-ltb, Decides-not, Decides-or, nat_tests}
pub use Rattle.std.proofs.lemmas.Fmt.{decimal_is_IsNumeral, length-decimal-le}
pub use Rattle.std.proofs.lemmas.Int.{ints}
pub use Rattle.std.proofs.lemmas.List.{get_or_default}
pub use Rattle.std.proofs.lemmas.List.Concat.{length-flat_map}
pub use Rattle.std.proofs.lemmas.List.Elements.{All-cons, All-from_recursion, All-head, All-tail, All-weaker}
pub use Rattle.std.proofs.lemmas.List.Folds.{list_any_none}
pub use Rattle.std.proofs.lemmas.List.Sums.{sum_by-le}
pub use Rattle.std.proofs.lemmas.Str.Parse.{digit_at}
pub use Rattle.std.specs.Cmp.Lexicographic.{bytes_decides}
pub use Rattle.std.specs.Fmt.{decimal, signed_decimal}
pub use Rattle.std.specs.List.{list_any}
pub use Rattle.std.specs.Prelude.{codes, int_le}
pub use Rattle.std.specs.Str.{bytes_eq}
pub use Rattle.stream_case.proofs.DigitLemmas.{integer_read}
pub use Rattle.stream_case.proofs.DistinctLemmas.{AllPairs-across}
pub use Rattle.stream_case.proofs.HeatLemmas.{cp-between}
pub use Rattle.stream_case.proofs.ListLemmas.{All-back}
pub use Rattle.stream_case.proofs.NameLemmas.{length-IsName}
pub use Rattle.stream_case.proofs.NameTests.{passed-name}
pub use Rattle.stream_case.proofs.SourceLemmas.{Decides-is_right_way}
pub use Rattle.stream_case.specs.Digits.{IsOfDigits}
unfoldable pub use Rattle.stream_case.specs.Digits.{integer_in, natural_in}
pub use Rattle.stream_case.specs.Limits.{IsBetween, IsContribution, IsFlowRate, IsHeat, IsLoad, IsPrice, IsTemperature}
pub use Rattle.stream_case.specs.Name.{IsName, is_name_byte}
unfoldable pub use Rattle.stream_case.specs.Name.{is_name}
pub use Rattle.stream_case.specs.Source.{is_right_way}
pub use Rattle.stream_case.specs.Stream.{IsLatent, IsSensible, IsValidStream}
pub use Rattle.stream_case.specs.declared.limits.TheConstants.{MOST_CONTRIBUTION}
pub use Rattle.stream_case.specs.declared.source.Side.{Side}
pub use Rattle.stream_case.specs.declared.stream.Stream.{Stream}
