-- The words and lemmas from elsewhere that the proofs of this crate speak in, passed on from one place. Declares nothing.
pub use Rattle.case_text.specs.Outcome.{grammar}
pub use Rattle.certify.specs.Answers.{HoldsOfCut, HoldsOfFlow, IsAnswer, IsAnswerOver, IsFirstOf, cut_causes, flow_causes}
pub use Rattle.certify.specs.declared.report.Checked.{Checked}
pub use Rattle.certify.specs.declared.report.Checked.TheVariants.{No, Yes}
pub use Rattle.certify.specs.declared.report.NoWhy.{NoWhy}
pub use Rattle.certify.specs.declared.report.Report.{Report}
pub use Rattle.design_lines.specs.Drawn.{HasFewLines}
pub use Rattle.first_fault.proofs.OneOutcome.{one_outcome}
pub use Rattle.fractions.specs.Rationals.{IsAtMost, IsWithinLimits, Rational, fraction_text, rational_zero, whole}
pub use Rattle.grid.specs.Part.{AreCaseParts, IsPartOf}
pub use Rattle.grid.specs.declared.part.Part.{Part}
pub use Rattle.grid.specs.declared.parts.Parts.{Parts}
pub use Rattle.heat_flow.proofs.Blanks.{blank}
pub use Rattle.heat_flow.proofs.CostLemmas.{part_price, side_cost-transfers}
pub use Rattle.heat_flow.specs.Certificate.{IsCertified, heat_of_utility, utility_heat}
pub use Rattle.heat_flow.specs.Flow.{HaveParts, IsHeatFlow, IsLeastCost, cost_of}
pub use Rattle.heat_flow.specs.Reach.{reach_between}
pub use Rattle.heat_flow.specs.declared.flow.Transfer.{Transfer}
pub use Rattle.network_audit.proofs.BalanceWithin.{HasFractions, balance-within}
pub use Rattle.network_audit.proofs.FindingLemmas.{one_verdict}
pub use Rattle.network_audit.specs.Audit.{SaysExactly}
pub use Rattle.network_audit.specs.Balance.{balance_of}
pub use Rattle.network_audit.specs.Findings.{HasNoFinding, IsVerdict}
pub use Rattle.network_audit.specs.Valid.{IsValidNetwork}
pub use Rattle.network_audit.specs.declared.findings.Place.{Place}
pub use Rattle.network_audit.specs.declared.findings.Reason.{Reason}
pub use Rattle.network_audit.specs.declared.verdict.Balance.{Balance}
pub use Rattle.network_audit.specs.declared.verdict.Verdict.{Verdict}
pub use Rattle.network_text.proofs.ReadBack.Law.{shape-is_network}
pub use Rattle.network_text.proofs.Printed.Lengths.{text-short}
pub use Rattle.network_text.specs.Outcome.{IsNetwork}
unfoldable pub use Rattle.network_text.specs.Printed.{text_of}
pub use Rattle.networks.specs.Shape.{HasShape}
pub use Rattle.networks.specs.declared.network.Network.{Network}
pub use Rattle.penalties.specs.Answers.{IfListed, sum_of}
pub use Rattle.commands.specs.Answers.{Shows, ShowsCommand}
unfoldable pub use Rattle.commands.specs.Answers.{Answers}
pub use Rattle.commands.specs.Audit.{IsAccepted, IsAuditOf, ShowsVerdict}
pub use Rattle.commands.specs.Certify.{IsCheckOf, shown_check}
pub use Rattle.commands.specs.Complete.{Holds, HoldsFault, HoldsText}
unfoldable pub use Rattle.commands.specs.Complete.{CanAnswer, HasBadFile}
pub use Rattle.commands.specs.Design.{AnswersDesign, IsDesignOf, IsShownNetwork, IsTightDesign, ShowsDesignOf}
pub use Rattle.commands.specs.Files.{FromText, IsRefused, NoFile, NoText, ReadsCompleted, ReadsText, by_text, failed, no_file, no_text, refused, too_long}
unfoldable pub use Rattle.commands.specs.Files.{EndsIn}
pub use Rattle.commands.specs.Flow.{AnswersFlow, IsCaseAnswer, shown_answer}
pub use Rattle.commands.specs.Formats.{Format, case_file, network_file, report_file, site_file, study_file}
pub use Rattle.commands.specs.PrintedDesigns.{AcceptsDesign, AuditsDesign, HoldsDesign, IsWithinCounts}
pub use Rattle.commands.specs.PrintedProofs.{ChecksProof, HoldsProof}
pub use Rattle.commands.specs.Forms.{one_file, sample_words, study_words, sweep_words, two_files}
pub use Rattle.commands.specs.Reading.{Reading, WantsFile, file, formed, of_completed, ready, stop, wanted}
unfoldable pub use Rattle.commands.specs.Reading.{reading_of}
pub use Rattle.commands.specs.Site.{IsLeastBoiler, ShowsSite, profiles_shown}
pub use Rattle.commands.specs.Status.{IsAnswered, status_of, status_of_site}
pub use Rattle.commands.specs.Stop.{IfEarly, Reads}
pub use Rattle.commands.specs.Tasks.{ShowsTask}
pub use Rattle.commands.specs.Vertical.{IsVerticalAnswer}
pub use Rattle.commands.specs.declared.request.CaseTask.{CaseTask}
pub use Rattle.commands.specs.declared.request.CaseTask.TheVariants.{Curves, Design, Flow, Targets}
pub use Rattle.commands.specs.declared.request.Request.{Request}
pub use Rattle.commands.specs.declared.request.Request.TheVariants.{OfSite, Prices}
pub use Rattle.commands.specs.declared.status.Status.{Status}
pub use Rattle.commands.specs.declared.status.Status.TheVariants.{Answered}
pub use Rattle.commands.specs.declared.stop.Stop.{Stop}
pub use Rattle.pinch_outside.specs.Faults.{Rose}
pub use Rattle.pinch_outside.specs.Shelf.{IsFile, IsFileAbove, KeepsFiles, NamedFile, ShelfState}
pub use Rattle.pinch_outside.specs.declared.limits.TheConstants.{MAX_FILE}
pub use Rattle.site.specs.Profiles.{sink_profile, source_profile}
pub use Rattle.site_text.specs.Site.{streams_of}
pub use Rattle.site.specs.Table.{boiler, cooling, site_utilities}
pub use Rattle.site.specs.declared.table.SiteTable.{SiteTable}
pub use Rattle.problem_table.specs.Deficit.{hot_target}
pub use Rattle.reports.proofs.DesignText.{design-statements}
pub use Rattle.reports.proofs.ProofTexts.{proofs-pass}
pub use Rattle.reports.specs.Design.{balance_comment, design_text}
pub use Rattle.reports.specs.Proofs.{IsProofOf}
pub use Rattle.reports.specs.Site.{boiler_heat}
pub use Rattle.reports.specs.declared.shown.Shown.TheVariants.{BadWords}
unfoldable pub use Rattle.reports.specs.Text.{IsPrintable, text}
pub use Rattle.reports.specs.declared.shown.FileRole.{FileRole}
pub use Rattle.reports.specs.declared.shown.Shown.{Shown}
pub use Rattle.reports.specs.declared.shown.Shown.TheVariants.{Accepted, SiteShown}
unfoldable pub use Rattle.rows.specs.Rows.{rows_of}
pub use Rattle.site.specs.Target.{AreSiteParts}
unfoldable pub use Rattle.statements.specs.Statements.{statements_of}
pub use Rattle.std.proofs.lemmas.Fmt.{length-decimal-le_wide}
pub use Rattle.std.proofs.lemmas.Int.{ints, to_z-of_z}
pub use Rattle.std.proofs.lemmas.List.{map-append, take_more}
pub use Rattle.std.proofs.lemmas.Option.{none-some, same_Some, slice_get-get_or}
pub use Rattle.std.proofs.lemmas.Result.{IfOk-weaker}
pub use Rattle.std.specs.Fmt.{decimal, signed_decimal}
pub use Rattle.std.specs.Int.{w128}
pub use Rattle.std.specs.Option.{option_map_or}
pub use Rattle.std.specs.Prelude.{Any, IsTrue, codes, if◌then◌else◌, not, pos, unsigned_abs, ℤ, ⊤, ◌*ℤ◌, ◌+ℤ◌, ◌↔◌}
pub use Rattle.std.specs.Result.{IsErrAnd}
pub use Rattle.std.specs.Str.{bytes_eq}
pub use Rattle.stream_case.proofs.CompleteLemmas.{AreStreams-IsComplete, StaysValid-IsComplete}
pub use Rattle.stream_case.specs.Case.{IsComplete, IsStandard, completed}
pub use Rattle.stream_case.specs.Source.{same_source}
pub use Rattle.stream_case.specs.Stream.{AreSensible, IsLatent, IsSensible, IsValidStream}
pub use Rattle.stream_case.specs.declared.case.Case.{Case}
pub use Rattle.stream_case.specs.declared.source.Side.TheVariants.{Cold, Hot}
pub use Rattle.stream_case.specs.declared.source.Source.{Source}
pub use Rattle.stream_case.specs.declared.stream.Stream.{Stream}
pub use Rattle.stream_case.specs.declared.utility.Utility.{Utility}
pub use Rattle.sums.proofs.IntegerLemmas.{if_one-times}
pub use Rattle.sums.proofs.SumLemmas.{int_sum_by-same, int_sum_by-zero}
pub use Rattle.transport.specs.Answer.{IfLeast}
pub use Rattle.transport.specs.declared.answer.Answer.{Answer}
pub use Rattle.transport.specs.declared.answer.Answer.TheVariants.{Least, Stuck}
