-- The words and lemmas from elsewhere that the proofs of this crate speak in, passed on from one place. Declares nothing.
pub use Rattle.statements.specs.Statements.{IsPlainField, IsPlainStatement, IsVisible, Statement, is_blank, is_empty, is_newline, statement_text}
unfoldable pub use Rattle.statements.specs.Statements.{fields_of, fields_text, is_statement, statements_of}
pub use Rattle.std.proofs.lemmas.Bool.{false_from_ne_true, false≢true, not-false, not-true}
pub use Rattle.std.proofs.lemmas.Bool.Decides.{nat_tests}
pub use Rattle.std.proofs.lemmas.Fmt.{decimal_is_IsNumeral_wide}
pub use Rattle.std.proofs.lemmas.Iterator.Consumers.{YieldsList-at, YieldsList-from_filter, map_from_collect}
pub use Rattle.std.proofs.lemmas.Iterator.Splits.{YieldsList-from_slice_split}
pub use Rattle.std.proofs.lemmas.List.{get_or_default, nil_from_length, take_rest}
pub use Rattle.std.proofs.lemmas.List.Elements.{All-append, All-cons, All-from_recursion, All-head, All-nil, All-tail, All-weaker}
pub use Rattle.std.proofs.lemmas.List.Folds.{list_any_at}
pub use Rattle.std.proofs.lemmas.List.Quantifiers.{position-Some}
pub use Rattle.std.proofs.lemmas.List.Sums.{AllPass-from_list_all}
pub use Rattle.std.proofs.lemmas.Option.{cond_some}
pub use Rattle.std.proofs.lemmas.Str.Parse.{digit_at}
pub use Rattle.std.specs.Fmt.{signed_decimal}
pub use Rattle.std.specs.List.{AllByRecursion, list_all, list_any, position_or_len, slice_split}
pub use Rattle.std.specs.Str.Lines.{lines, lines_of_parts, strip_carriage_return}
pub use Rattle.stream_case.specs.Name.{IsName, is_name_byte}
