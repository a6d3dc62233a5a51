-- The words and lemmas from elsewhere that the proofs of this crate speak in, passed on from one place. Declares nothing.
pub use Rattle.grid.proofs.MakingLemmas.{AreParts-made}
pub use Rattle.grid.proofs.SizeLemmas.{length-made}
pub use Rattle.grid.specs.Grid.{HoldsPlaces}
pub use Rattle.grid.specs.Making.{made_parts}
pub use Rattle.grid.specs.Part.{AreParts}
pub use Rattle.grid.specs.declared.part.Part.{Part}
pub use Rattle.heat_flow.proofs.Blanks.{blank}
pub use Rattle.heat_flow.specs.Table.{reaches}
pub use Rattle.problem_table.proofs.DeficitLemmas.{deficit_above-lowest}
pub use Rattle.problem_table.proofs.EndLemmas.{IsOutermost-outermost}
pub use Rattle.problem_table.specs.Deficit.{deficit_above}
pub use Rattle.problem_table.specs.Sides.{sum_side}
pub use Rattle.site.specs.Directions.{IsPlantHeat, imbalance, is_beyond, plant_profile, raised}
pub use Rattle.site.specs.Profiles.{heat_below, length_below, surplus_below}
pub use Rattle.site.specs.Reach.{part_reaches, passes_through, plants_from, reach_between, reaches_within, stream_plants}
pub use Rattle.site.specs.SiteTable.{IsSiteTable}
pub use Rattle.site.specs.Table.{IsSiteGrid, boiler, cooling, gives_at, main_places, site_places, site_utilities, takes_at}
pub use Rattle.site.specs.Target.{AreSiteParts, IsSiteTarget}
pub use Rattle.site.specs.declared.profiles.Direction.{Direction}
pub use Rattle.site.specs.declared.table.SiteTable.{SiteTable}
pub use Rattle.site_text.specs.Site.{ArePlantStreams, IsValidSite, streams_of}
pub use Rattle.site_text.specs.declared.limits.TheConstants.{MOST_SIDE_STREAMS}
pub use Rattle.site_text.specs.declared.site.Main.{Main}
pub use Rattle.site_text.specs.declared.site.Plant.{Plant}
pub use Rattle.site_text.specs.declared.site.Site.{Site}
pub use Rattle.std.proofs.Math.Nat.{mul-le-mul}
pub use Rattle.std.proofs.lemmas.Bool.{cases_lt}
pub use Rattle.std.proofs.lemmas.Bool.Decides.{nat_tests}
pub use Rattle.std.proofs.lemmas.Int.{clamps, ints, to_z-of_z}
pub use Rattle.std.proofs.lemmas.List.{append-nil, get_or-map, get_or_default, length-append, length-map, length-take-le, take_all, take_more}
pub use Rattle.std.proofs.lemmas.List.Concat.{flat_map-append, get_or-flat_map}
pub use Rattle.std.proofs.lemmas.List.Elements.{All-cons, All-nil, All-weaker}
pub use Rattle.std.proofs.lemmas.List.Sums.{fold-append}
pub use Rattle.std.proofs.lemmas.Option.{slice_get-get_or, slice_get_past}
pub use Rattle.std.specs.Int.{int_max, int_min}
pub use Rattle.std.specs.List.{flat_map, list_any}
pub use Rattle.std.specs.Prelude.{All, Contains, filter, fold, if◌then◌else◌, nat_lt, negsuc, pos, unsigned_abs, ℤ, ◌*ℤ◌, ◌+ℤ◌, ◌-ℤ◌, ◌<ℤ◌, ◌≤ℤ◌}
pub use Rattle.stream_case.proofs.CaseLemmas.{count_on-add, length-AreStreams}
pub use Rattle.stream_case.proofs.EndLemmas.{AreEnds-IsValidStream, length-stream_ends, stream_ends-between, stream_ends-more}
pub use Rattle.stream_case.proofs.HeatLemmas.{heat_of-sensible, heat_over-sensible}
pub use Rattle.stream_case.specs.Case.{greatest, least}
pub use Rattle.stream_case.specs.Limits.{IsContribution, IsShifted, IsTemperature}
pub use Rattle.stream_case.specs.Source.{same_side}
pub use Rattle.stream_case.specs.Stream.{AreSensible, AreStreams, IsSensible, IsValidStream, heat_above, heat_of, high_end, length_above, low_end}
pub use Rattle.stream_case.specs.Stream.{stream_ends}
pub use Rattle.stream_case.specs.Utility.{IsPlaced, shifted_level}
pub use Rattle.stream_case.specs.declared.limits.TheConstants.{ALL_STREAMS_HEAT, MOST_MAINS, MOST_PLACES}
pub use Rattle.stream_case.specs.declared.source.Side.{Side}
pub use Rattle.stream_case.specs.declared.source.Side.TheVariants.{Cold, Hot}
pub use Rattle.stream_case.specs.declared.stream.Stream.{Stream}
pub use Rattle.sums.proofs.CountLemmas.{length-le_falling}
pub use Rattle.sums.proofs.OrderLemmas.{Contains-cons, ListsFalling-unique}
pub use Rattle.sums.proofs.ProductLemmas.{*ℤ--ℤ}
pub use Rattle.sums.proofs.SumLemmas.{int_sum_by-more, int_sum_by-same, int_sum_by-sub}
pub use Rattle.sums.specs.Order.{ListsFalling}
pub use Rattle.sums.specs.Sum.{int_sum_by}
pub use Rattle.transport.specs.Answer.{IsAnswer}
pub use Rattle.transport.specs.declared.answer.Answer.{Answer}
pub use Rattle.transport.specs.declared.least_cost.TheConstants.{MOST_PAIRS}
pub use mathlib.Core.Path.{fun_ext}
