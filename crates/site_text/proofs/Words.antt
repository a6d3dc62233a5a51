-- The words and lemmas from elsewhere that the proofs of this crate speak in, passed on from one place. Declares nothing.
pub use Rattle.first_fault.proofs.CheckLemmas.{Passes, none_fails}
pub use Rattle.first_fault.proofs.OneOutcome.{fault_or_value, no_value, one_fault, one_value}
pub use Rattle.first_fault.proofs.Steps.{Follows, Give, IsKept, all_give, given_has, nothing_gives, one_more_gives}
pub use Rattle.first_fault.specs.Outcome.{given_by}
pub use Rattle.rows.proofs.PrintedNumbers.{flow_rate, number_read, temperature}
pub use Rattle.rows.proofs.Seams.{All-seam, AllPairs-seam, length-seam}
pub use Rattle.rows.proofs.SharedRows.{contribution-passes, contribution-read, passed-contribution, stream_row-kind}
pub use Rattle.rows.proofs.Tests.{Decides-neither, Decides-none, passed-room, passed-within, room-passes, within-passes}
pub use Rattle.rows.specs.Printed.{contribution_row, stream_row}
pub use Rattle.rows.specs.Rows.{Row}
unfoldable pub use Rattle.rows.specs.Rows.{rows_of}
pub use Rattle.rows.specs.Text.{rows_text}
pub use Rattle.rows.specs.declared.fault.RowFault.{RowFault}
pub use Rattle.site_text.proofs.SiteLemmas.{All-plants, streams_of-more}
pub use Rattle.site_text.specs.Additions.{HaveFewStreams}
pub use Rattle.site_text.specs.Checks.{contribution_causes}
unfoldable pub use Rattle.site_text.specs.Checks.{end_checks, is_among, is_reserved}
pub use Rattle.site_text.specs.Given.{Given, entry_by, kind_in, main_in, nothing, plant_with, site_of, stream_in, with_entry, with_stream}
unfoldable pub use Rattle.site_text.specs.Given.{kind_of}
pub use Rattle.site_text.specs.Outcome.{IsOutcome, IsSite, end_fault, grammar}
unfoldable pub use Rattle.site_text.specs.Printed.{main_row, plant_row, plant_rows, printed_rows}
pub use Rattle.site_text.specs.Site.{AreDistinct, ArePlants, IsUnreserved, IsValidSite, streams_of}
pub use Rattle.site_text.specs.declared.fault.SiteWhy.{SiteWhy}
pub use Rattle.site_text.specs.declared.kind.Kind.{Kind}
pub use Rattle.site_text.specs.declared.limits.TheConstants.{MOST_PLANTS, MOST_SIDE_STREAMS}
pub use Rattle.site_text.specs.declared.site.Main.{Main}
pub use Rattle.site_text.specs.declared.site.Plant.{Plant}
pub use Rattle.site_text.specs.declared.site.Site.{Site}
pub use Rattle.std.proofs.Math.ListN.{set}
pub use Rattle.std.proofs.Math.Seq.{append_snoc}
pub use Rattle.std.proofs.lemmas.Bool.{false≢true}
pub use Rattle.std.proofs.lemmas.Bool.Decides.{Decides-like, nat_tests}
pub use Rattle.std.proofs.lemmas.List.{append-nil, length-map, map-append, take-append-drop}
pub use Rattle.std.proofs.lemmas.List.Concat.{flat_map-append}
pub use Rattle.std.proofs.lemmas.List.Elements.{All-append, All-cons, All-head, All-map, All-nil, All-push, All-tail, All-weaker}
pub use Rattle.std.proofs.lemmas.List.Folds.{list_any-append}
pub use Rattle.std.proofs.lemmas.List.Quantifiers.{all_pairs_push}
pub use Rattle.std.proofs.lemmas.List.Sums.{sum_by-append, sum_by-cons, sum_by_push}
pub use Rattle.std.proofs.lemmas.Simd.{map-map}
pub use Rattle.std.specs.List.{flat_map, list_any}
pub use Rattle.std.specs.Prelude.{All, codes, vec_len}
pub use Rattle.std.specs.Str.{bytes_eq}
pub use Rattle.stream_case.proofs.CaseLemmas.{count_on-append}
pub use Rattle.stream_case.proofs.ListLemmas.{All-back}
pub use Rattle.stream_case.proofs.NameTests.{name-passes, passed-name}
pub use Rattle.stream_case.proofs.SourceLemmas.{Decides-is_right_way, own_side}
pub use Rattle.stream_case.specs.Limits.{IsContribution, IsTemperature}
pub use Rattle.stream_case.specs.Name.{IsName}
unfoldable pub use Rattle.stream_case.specs.Name.{is_name}
pub use Rattle.stream_case.specs.Source.{same_side}
pub use Rattle.stream_case.specs.Stream.{IsSensible, IsValidStream, count_on, stream_with}
pub use Rattle.stream_case.specs.declared.limits.TheConstants.{MOST_MAINS}
pub use Rattle.stream_case.specs.declared.source.Side.{Side}
pub use Rattle.stream_case.specs.declared.stream.Stream.{Stream}
pub use Rattle.sums.proofs.CountLemmas.{count_by-map}
pub use Rattle.sums.proofs.ListLemmas.{All-from_map}
