-- The words and lemmas from elsewhere that the proofs of this crate speak in, passed on from one place. Declares nothing.
pub use Rattle.certify.proofs.PartSums.{needing-within}
pub use Rattle.certify.proofs.Printed.{printed-again}
pub use Rattle.certify.proofs.Said.{certified-pass, cuts-pass}
pub use Rattle.certify.specs.Answers.{own_parts, span_of, use_of}
pub use Rattle.certify.specs.Said.{cut_report, flow_report, made_from, move_of, named_at, priced_by}
pub use Rattle.certify.specs.declared.report.Span.{Span}
pub use Rattle.grid.specs.Part.{AreCaseParts}
pub use Rattle.grid.specs.declared.part.Part.{Part}
pub use Rattle.grid.specs.declared.parts.Parts.{Parts}
pub use Rattle.heat_flow.proofs.Blanks.{blank}
pub use Rattle.heat_flow.specs.Certificate.{IsCertified, IsCutOf}
pub use Rattle.heat_flow.specs.Flow.{HaveParts}
pub use Rattle.heat_flow.specs.Prices.{price_at}
pub use Rattle.heat_flow.specs.Reach.{reach_between}
pub use Rattle.heat_flow.specs.declared.cut.Cut.{Cut}
pub use Rattle.heat_flow.specs.declared.cut.CutKind.{CutKind}
pub use Rattle.heat_flow.specs.declared.cut.CutKind.TheVariants.{Demand, Supply}
pub use Rattle.heat_flow.specs.declared.flow.Flow.{Flow}
pub use Rattle.heat_flow.specs.declared.flow.Transfer.{Transfer}
pub use Rattle.heat_flow.specs.declared.prices.Prices.{Prices}
pub use Rattle.network_audit.proofs.BalanceWithin.{HasFractions}
pub use Rattle.network_audit.specs.declared.verdict.Balance.{Balance}
pub use Rattle.network_text.proofs.Printed.Fields.{fraction_plain}
unfoldable pub use Rattle.network_text.specs.Printed.{text_of}
pub use Rattle.networks.specs.declared.network.Network.{Network}
pub use Rattle.reports.specs.Audit.{penalty_line}
pub use Rattle.reports.specs.Curves.{point_line}
pub use Rattle.reports.specs.Cut.{cut_line, member_line, stuck_text}
pub use Rattle.reports.specs.Design.{balance_comment, design_text}
pub use Rattle.reports.specs.Flow.{flow_text, move_line, part_at, part_text, price_line, price_word, use_line}
pub use Rattle.reports.specs.Lines.{line, texts_from}
pub use Rattle.reports.specs.Names.{case_names, source_name, stream_names}
pub use Rattle.reports.specs.Prices.{item_lines, segment_line}
pub use Rattle.reports.specs.Proofs.{IsAnsweredWithYes, PrintedProofsPass}
pub use Rattle.reports.specs.Site.{profile_line}
pub use Rattle.reports.specs.Sweep.{row_line}
unfoldable pub use Rattle.reports.specs.Text.{text}
pub use Rattle.reports.specs.declared.names.SourceNames.{SourceNames}
pub use Rattle.statements.proofs.PlainStatements.{comment-back, word_plain}
pub use Rattle.statements.specs.Statements.{IsPlainField, Statement, statement_text}
unfoldable pub use Rattle.statements.specs.Statements.{fields_text, is_statement, statements_of}
pub use Rattle.std.proofs.lemmas.Grind.{flat_map-append}
pub use Rattle.std.proofs.lemmas.Int.{to_z-of_z}
pub use Rattle.std.proofs.lemmas.List.{length-take-le, take_more}
pub use Rattle.std.proofs.lemmas.List.Elements.{All-cons, All-head, All-nil, All-tail}
pub use Rattle.std.proofs.lemmas.Option.{slice_get-get_or}
pub use Rattle.std.proofs.lemmas.Slice.Zip.{either_empty_from_Zip}
pub use Rattle.std.specs.Fmt.{signed_decimal}
pub use Rattle.std.specs.Iterator.Adapters.{zip_first, zip_second}
pub use Rattle.std.specs.List.{flat_map, list_all}
pub use Rattle.std.specs.Option.{option_map_or}
pub use Rattle.std.specs.Prelude.{codes, pos, slice_index_or, ℤ}
pub use Rattle.std.specs.Slice.Iter.{iter_rest}
pub use Rattle.stream_case.specs.Case.{IsComplete}
pub use Rattle.stream_case.specs.declared.case.Case.{Case}
pub use Rattle.stream_case.specs.declared.source.Side.{Side}
pub use Rattle.stream_case.specs.declared.source.Side.TheVariants.{Cold, Hot}
pub use Rattle.stream_case.specs.declared.source.Source.{Source}
pub use Rattle.stream_case.specs.declared.stream.Stream.{Stream}
pub use Rattle.stream_case.specs.declared.utility.Utility.{Utility}
pub use Rattle.study.specs.declared.study_answer.StudyAnswer.{StudyAnswer}
pub use Rattle.study_text.specs.declared.study.StudyItem.{StudyItem}
