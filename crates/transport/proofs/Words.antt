-- The words and lemmas from elsewhere that the proofs of this crate speak in, passed on from one place. Declares nothing.
pub use Rattle.chains.proofs.FlatMaps.{length-flat_map-le}
pub use Rattle.chains.specs.Inner.{IsHeatOf, IsInner, IsInnerLink}
pub use Rattle.chains.specs.Path.{IsPath, PathsAreReaches}
pub use Rattle.chains.specs.Spread.{IsSpread}
pub use Rattle.corner_flow.specs.Value.{IsValueBetween}
pub use Rattle.flow_net.proofs.Duality.{falls_of_routing}
pub use Rattle.flow_net.proofs.Sizes.{greatest-le, sizes}
pub use Rattle.flow_net.proofs.Sums.{sum_below-same}
pub use Rattle.flow_net.specs.Net.{AreBounded, AreEnds, AreInitialPotentials, AreProofOfLeast, IsLinkWithin, IsRoom, IsRouting, IsWithinLimits, IsWithinRooms}
pub use Rattle.flow_net.specs.Net.{flow_on, inflow, is_in, largest_cost, leaves, link_at, outflow, potential_at, reduced_cost}
pub use Rattle.flow_net.specs.Sum.{sum_below}
pub use Rattle.flow_net.specs.declared.limits.TheConstants.{MOST_ROOM}
pub use Rattle.flow_net.specs.declared.net.Link.{Link}
pub use Rattle.flow_net.specs.declared.net.Net.{Net}
pub use Rattle.grid.proofs.OnGridLemmas.{parts_on_grid}
pub use Rattle.grid.specs.Bounds.{IsBounded}
pub use Rattle.grid.specs.declared.part.Part.{Part}
pub use Rattle.grid.specs.declared.parts.Parts.{Parts}
pub use Rattle.heat_flow.proofs.Blanks.{blank}
pub use Rattle.heat_flow.proofs.CostLemmas.{HasCost-flow}
pub use Rattle.heat_flow.proofs.CutLemmas.{cuts_refuse_flows}
pub use Rattle.heat_flow.proofs.Duality.{excess_price-*ℤ, int_sum_from-excess, weak_duality}
pub use Rattle.heat_flow.proofs.LoopSums.{SumSoFar, SumSoFar-more}
pub use Rattle.heat_flow.specs.Certificate.{ArePartPrices, IsCertified, IsCutOf}
pub use Rattle.heat_flow.specs.Checks.{HasCost}
pub use Rattle.heat_flow.specs.Cuts.{IsCut, cut_side, joins, least_at, meets, need_of, offer_of, opposite, parts_of}
pub use Rattle.heat_flow.specs.Flow.{IsHeatFlow, IsLeastCost, KeepsRanges, cost_of, heat_at, side_cost}
pub use Rattle.heat_flow.specs.Prices.{IsSupporting, excess_price, least_product, price_at, side_value, value_of}
pub use Rattle.heat_flow.specs.Reach.{both_reach, passes_heat, reach_between}
pub use Rattle.heat_flow.specs.declared.cut.Cut.{Cut}
pub use Rattle.heat_flow.specs.declared.cut.CutKind.{CutKind}
pub use Rattle.heat_flow.specs.declared.cut.CutKind.TheVariants.{Demand, Supply}
pub use Rattle.heat_flow.specs.declared.flow.Flow.{Flow}
pub use Rattle.heat_flow.specs.declared.flow.Transfer.{Transfer}
pub use Rattle.heat_flow.specs.declared.reach.Reach.{Reach}
pub use Rattle.std.proofs.Math.Bool.{and-false, or-false}
pub use Rattle.std.proofs.Math.IntN.{*ℤ-zero}
pub use Rattle.std.proofs.lemmas.Bool.{and_parts, cases_Bool, cases_lt, eq-eqb, false≢true, le-ltb, lt-ltb, ltb-true, ne_eqb}
pub use Rattle.std.proofs.lemmas.Int.{by_lt_z, clamps, ints, to_z-of_z}
pub use Rattle.std.proofs.lemmas.List.{append-nil, flat_map_more, get_or-append-add, get_or-replicate, get_or-take, get_or_append_left, get_or_default}
pub use Rattle.std.proofs.lemmas.List.{get_or_past, length-replicate, length-take-le, map-append, take_more}
pub use Rattle.std.proofs.lemmas.List.Elements.{All-append, All-cons, All-contains, All-head, All-nil, All-tail, All-weaker}
pub use Rattle.std.proofs.lemmas.List.Folds.{Any-from_list_any, list_any-append, list_any_more}
pub use Rattle.std.proofs.lemmas.List.FromFn.{get_or-map-range_with_len, get_or-range_with_len, length-map-range_with_len, length-range_with_len}
pub use Rattle.std.proofs.lemmas.Nat.{mul-le}
pub use Rattle.std.proofs.lemmas.Option.{get_or_from_slice_get, same_Some, slice_get-get_or, slice_get_within}
pub use Rattle.std.proofs.lemmas.Result.{IfOk-weaker}
pub use Rattle.std.specs.Int.{w128}
pub use Rattle.std.specs.Int.RustNames.{unsigned_abs}
pub use Rattle.std.specs.List.{flat_map, list_any, range_with_len}
pub use Rattle.std.specs.Prelude.{All, AllPairs, Contains, IsTrue, Some, if◌then◌else◌, int_lt, nat_lt, neg_ℤ, negsuc, pos, slice_get, slice_index_or, ℤ, ◌*ℤ◌}
pub use Rattle.std.specs.Prelude.{◌+ℤ◌, ◌-ℤ◌, ◌<ℤ◌, ◌==◌, ◌≤ℤ◌}
pub use Rattle.stream_case.specs.Limits.{IsBetween, IsPartPrice, IsPrice}
pub use Rattle.stream_case.specs.Source.{same_source}
pub use Rattle.stream_case.specs.declared.case.Case.{Case}
pub use Rattle.stream_case.specs.declared.case.Forbid.{Forbid}
pub use Rattle.stream_case.specs.declared.limits.TheConstants.{MOST_HEAT, MOST_PARTS, MOST_PRICE}
pub use Rattle.stream_case.specs.declared.source.Side.{Side}
pub use Rattle.stream_case.specs.declared.source.Side.TheVariants.{Cold, Hot}
pub use Rattle.stream_case.specs.declared.source.Source.{Source}
pub use Rattle.sums.proofs.ConsLemmas.{All-cons_if, AllPairs-cons_if, cons_if-append}
pub use Rattle.sums.proofs.EnumerationLemmas.{range_with_len-append}
pub use Rattle.sums.proofs.IntegerLemmas.{if_between, int_lt-false, int_lt-from, int_lt-true}
pub use Rattle.sums.proofs.ListLemmas.{All-flat_map, All-slice_get, Contains-flat_map, slice_get-append}
pub use Rattle.sums.proofs.OrderLemmas.{AllPairs-nil}
pub use Rattle.sums.proofs.ProductLemmas.{*ℤ-+ℤ, *ℤ--ℤ, *ℤ-≤ℤ_left, -ℤ-*ℤ, zero_times}
pub use Rattle.sums.proofs.SumLemmas.{int_sum_by-at_most, int_sum_by-cons_if, int_sum_by-more, int_sum_by-not_negative, int_sum_from-add, int_sum_from-append}
pub use Rattle.sums.proofs.SumLemmas.{int_sum_from-by, int_sum_from-le_each, int_sum_from-same, int_sum_from-same_each, int_sum_from-single, int_sum_from-sub}
pub use Rattle.sums.proofs.SumLemmas.{int_sum_from-zero}
pub use Rattle.sums.specs.Pairing.{cons_if}
pub use Rattle.sums.specs.Sum.{int_sum_by, int_sum_from}
pub use Rattle.transport.specs.Answer.{IsAnswer}
pub use Rattle.transport.specs.CaseCost.{IsCaseCost}
pub use Rattle.transport.specs.Around.{BlocksMost, IsNodePotential, RoutesMost, ends_behind, links_between, links_of_parts, most_of, net_around, prices_of}
pub use Rattle.transport.specs.Around.{spare_link, start_of, whole_link}
pub use Rattle.transport.specs.Members.{IsCutWithin, IsSideHeat, is_picked, members_of, needing_from}
pub use Rattle.transport.specs.Offer.{ForbidAlike, both_pass, names, reach_unless, refuses}
pub use Rattle.transport.specs.Pairs.{link_between, pair_link, pair_links, pair_net, row_links}
pub use Rattle.transport.specs.Priced.{priced}
pub use Rattle.transport.specs.declared.answer.Answer.TheVariants.{Least, Stuck}
pub use Rattle.transport.specs.declared.least_cost.TheConstants.{MOST_PAIRS}
pub use Rattle.transport.specs.declared.net.Ends.{Ends}
