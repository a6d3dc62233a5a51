-- The words and lemmas from elsewhere that the proofs of this crate speak in, passed on from one place. Declares nothing.
pub use Rattle.curves.specs.Below.{heat_below, heat_under, heat_upto, length_below, load_under, sensible_below, temperatures_of}
pub use Rattle.curves.specs.Curve.{grand_points, is_latent_at, one_or_two, side_points}
pub use Rattle.curves.specs.declared.point.Point.{Point}
pub use Rattle.problem_table.proofs.SideLemmas.{sum_side-more, sum_side-so_far}
pub use Rattle.problem_table.specs.Sides.{sum_side}
pub use Rattle.std.proofs.lemmas.Grind.{flat_map-append}
pub use Rattle.std.proofs.lemmas.Int.{clamps, ints, to_z-of_z}
pub use Rattle.std.proofs.lemmas.List.{take_more}
pub use Rattle.std.proofs.lemmas.List.Elements.{filter-append}
pub use Rattle.std.specs.List.{list_any}
pub use Rattle.stream_case.proofs.HeatLemmas.{HasLength-sensible, heat-between}
pub use Rattle.stream_case.specs.Limits.{IsLength, IsSensibleHeat, IsStreamHeat, IsStreamsHeat}
pub use Rattle.stream_case.specs.Source.{is_hot, same_side}
pub use Rattle.stream_case.specs.Stream.{IsLatent, IsSensible, IsValidStream, counts_above, has_level_at, higher_temperature, lower_temperature}
pub use Rattle.stream_case.specs.declared.source.Side.{Side}
pub use Rattle.stream_case.specs.declared.source.Side.TheVariants.{Cold, Hot}
pub use Rattle.stream_case.specs.declared.stream.Stream.{Stream}
pub use Rattle.sums.proofs.IntegerLemmas.{if_between, if_zero}
