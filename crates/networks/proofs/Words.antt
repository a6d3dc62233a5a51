-- The words and lemmas from elsewhere that the proofs of this crate speak in, passed on from one place. Declares nothing.
pub use Rattle.first_fault.proofs.Steps.{slice_get-front}
pub use Rattle.fractions.specs.Rationals.{Rational}
pub use Rattle.networks.specs.declared.network.Branch.{Branch}
pub use Rattle.networks.specs.declared.network.Line.{Line}
pub use Rattle.networks.specs.declared.network.Network.{Network}
pub use Rattle.networks.specs.declared.network.Passage.{Passage}
pub use Rattle.std.proofs.Math.Seq.{drop-cons, take-suc}
pub use Rattle.std.proofs.lemmas.Bool.{and_parts, cases_lt, cases_order, false≢true}
pub use Rattle.std.proofs.lemmas.Bool.Decides.{nat_tests}
pub use Rattle.std.proofs.lemmas.List.{get_or_append_left, get_or_at, get_or_default, length-map, map-append}
pub use Rattle.std.proofs.lemmas.List.Concat.{flat_map-append}
pub use Rattle.std.proofs.lemmas.List.Elements.{All-cons, All-head, All-nil, All-push, All-tail, filter_map-append}
pub use Rattle.std.proofs.lemmas.List.Folds.{list_any_at}
pub use Rattle.std.proofs.lemmas.List.Quantifiers.{all_pairs_push}
pub use Rattle.std.proofs.lemmas.Option.{get_or_from_slice_get, slice_get-get_or, slice_get_read, slice_get_within}
pub use Rattle.std.specs.List.{cons_option, enumerate_from, list_any}
pub use Rattle.stream_case.proofs.CaseLemmas.{IsSourceOf-side}
pub use Rattle.stream_case.proofs.DistinctLemmas.{AllPairs-front}
pub use Rattle.stream_case.proofs.ListLemmas.{filter_map-push}
pub use Rattle.stream_case.specs.declared.case.Case.{Case}
pub use Rattle.stream_case.specs.declared.source.Source.{Source}
pub use Rattle.stream_case.specs.declared.stream.Stream.{Stream}
pub use Rattle.sums.proofs.CountLemmas.{count_by-cons}
pub use Rattle.sums.proofs.EnumerationLemmas.{enumerate_from-append}
