-- The words and lemmas from elsewhere that the proofs of this crate speak in, passed on from one place. Declares nothing.
pub use Rattle.grid.proofs.OnGridLemmas.{side_of_part}
pub use Rattle.grid.proofs.PartsExist.{one_side}
pub use Rattle.grid.specs.Bounds.{IsBounded}
pub use Rattle.grid.specs.Part.{AreCaseParts, AreParts, IsPartOf}
pub use Rattle.grid.specs.declared.part.Part.{Part}
pub use Rattle.grid.specs.declared.parts.Parts.{Parts}
pub use Rattle.heat_flow.specs.Cells.{ArePermissions}
pub use Rattle.heat_flow.specs.Certificate.{HoldsOfParts, IsCutOf, heat_of_utility}
pub use Rattle.heat_flow.specs.Checks.{HasCost, ReachesAmong}
pub use Rattle.heat_flow.specs.Cuts.{HasNoFlow, IsCut, cut_side, joins, least_at, meets, need_of, offer_of, opposite, parts_of}
pub use Rattle.heat_flow.specs.Flow.{ArePositive, HaveParts, IsHeatFlow, KeepsRanges, heat_at, part_index, precedes, side_cost}
pub use Rattle.heat_flow.specs.Prices.{IsLeastProduct, IsSupporting, WeakDuality, excess_price, least_product, price_at, side_value}
pub use Rattle.heat_flow.specs.Ranges.{IsWithin, most_excess, most_part_value}
pub use Rattle.heat_flow.specs.Reach.{both_reach, part_reaches, reach_between}
pub use Rattle.heat_flow.specs.Table.{reaches}
pub use Rattle.heat_flow.specs.declared.flow.Transfer.{Transfer}
pub use Rattle.heat_flow.specs.declared.reach.Reach.{Reach}
pub use Rattle.std.proofs.lemmas.Bool.{and_parts, cases_eq, cases_lt, eq-eqb, eqb-true, ltb-true, ne_eqb, true≢false}
pub use Rattle.std.proofs.lemmas.Bool.Decides.{nat_tests}
pub use Rattle.std.proofs.lemmas.Int.{by_lt_z, clamps, ints, to_z-of_z}
pub use Rattle.std.proofs.lemmas.List.{get_or-map, get_or-set_other, get_or-set_same, get_or_default, length-map, length-take-le, take_all}
pub use Rattle.std.proofs.lemmas.List.Concat.{get_or-flat_map}
pub use Rattle.std.proofs.lemmas.List.Elements.{All-head, All-set, All-tail, All-weaker}
pub use Rattle.std.proofs.lemmas.Option.{get_or_from_slice_get, slice_get-get_or, slice_get_past, slice_get_within}
pub use Rattle.std.specs.Int.{w128}
pub use Rattle.std.specs.List.{flat_map, list_any}
pub use Rattle.std.specs.Prelude.{All, AllPairs, IsTrue, if◌then◌else◌, is_some, nat_lt, neg_ℤ, negsuc, pos, slice_get, slice_index_or, ℤ, ◌*ℤ◌, ◌+ℤ◌, ◌<ℤ◌, ◌==◌, ◌≤ℤ◌}
pub use Rattle.stream_case.proofs.CaseLemmas.{IsSourceOf-side, length-AreStreams}
pub use Rattle.stream_case.proofs.CompleteLemmas.{AreStreams-IsComplete, StaysValid-IsComplete, length-utilities}
pub use Rattle.stream_case.specs.Case.{IsComplete, IsSourceOf, IsValidForbid}
pub use Rattle.stream_case.specs.Limits.{IsBetween, IsHeat}
pub use Rattle.stream_case.specs.declared.case.Case.{Case}
pub use Rattle.stream_case.specs.declared.limits.TheConstants.{MOST_HEAT, MOST_PRICE}
pub use Rattle.stream_case.specs.declared.source.Side.{Side}
pub use Rattle.stream_case.specs.declared.source.Side.TheVariants.{Cold, Hot}
pub use Rattle.sums.proofs.OrderLemmas.{AllPairs-head, AllPairs-tail}
pub use Rattle.sums.proofs.ProductLemmas.{*ℤ-≤ℤ_left, *ℤ-≤ℤ_right, +ℤ-*ℤ, -ℤ-*ℤ, product_within}
pub use Rattle.sums.proofs.SumLemmas.{int_sum_by-add, int_sum_by-le, int_sum_by-more, int_sum_by-not_negative, int_sum_from-add, int_sum_from-by}
pub use Rattle.sums.proofs.SumLemmas.{int_sum_from-grouped, int_sum_from-le_each, int_sum_from-more, int_sum_from-same_each, int_sum_from-sub}
pub use Rattle.sums.specs.Sum.{int_sum_by, int_sum_from}
