-- The words and lemmas from elsewhere that the proofs of this crate speak in, passed on from one place. Declares nothing.
pub use Rattle.problem_table.specs.Deficit.{CountsFromItself, FindsHighestTight, HasTightDeficit, IsInside, IsPinch, IsReferencePlace, IsTight, IsTightOver}
pub use Rattle.problem_table.specs.Deficit.{cold_target, deficit_above, deficit_from, deficit_over, end_deficits, hot_target}
pub use Rattle.problem_table.specs.Sides.{sum_side}
pub use Rattle.std.proofs.Math.IntN.{*ℤ-zero}
pub use Rattle.std.proofs.lemmas.Bool.{false≢true}
pub use Rattle.std.proofs.lemmas.Bool.Decides.{Decides-not}
pub use Rattle.std.proofs.lemmas.Int.{by_lt_z, clamps, fold-int_max_bounds, fold-int_max_reached, fold-int_min_bounds, fold-int_min_reached, ints, to_z-of_z}
pub use Rattle.std.proofs.lemmas.List.{get_or-map, length-map, map-append, take_more}
pub use Rattle.std.proofs.lemmas.List.Elements.{All-contains, All-push, All-take, All-weaker, Contains-append_left, Contains-append_right, Contains-get_or}
pub use Rattle.std.proofs.lemmas.List.Sums.{fold-append}
pub use Rattle.std.specs.Bool.{Decides}
pub use Rattle.std.specs.Int.{int_max}
pub use Rattle.stream_case.proofs.CaseLemmas.{length-AreStreams}
pub use Rattle.stream_case.proofs.EndLemmas.{AreEnds-IsValidStream, each_end, length-stream_ends, stream_ends-more}
pub use Rattle.stream_case.proofs.HeatLemmas.{cp-between, heat_of-between, heat_over-between, heat_over-sensible}
pub use Rattle.stream_case.specs.Case.{outermost}
pub use Rattle.stream_case.specs.Limits.{IsBetween, IsStreamHeat, IsStreamsHeat}
pub use Rattle.stream_case.specs.Source.{same_side}
pub use Rattle.stream_case.specs.Stream.{AreSensible, AreStreams, HasValidStreams, IsLatent, IsSensible, IsValidStream, counts_above, heat_between, heat_of}
pub use Rattle.stream_case.specs.Stream.{heat_over, high_end, length_above, load_over, low_end, sensible_above, stream_ends}
pub use Rattle.stream_case.specs.declared.limits.TheConstants.{ALL_STREAMS, LOWEST_SHIFTED}
pub use Rattle.stream_case.specs.declared.source.Side.{Side}
pub use Rattle.stream_case.specs.declared.source.Side.TheVariants.{Cold, Hot}
pub use Rattle.stream_case.specs.declared.stream.Stream.{Stream}
pub use Rattle.sums.proofs.IntegerLemmas.{if_between, int_le-from, int_lt-from}
pub use Rattle.sums.proofs.OrderLemmas.{Lists-same}
pub use Rattle.sums.proofs.ProductLemmas.{*ℤ-≤ℤ_left}
pub use Rattle.sums.specs.Order.{ListsFalling}
pub use Rattle.sums.specs.Sum.{int_sum_by}
