-- The words and lemmas from elsewhere that the proofs of this crate speak in, passed on from one place. Declares nothing.
unfoldable pub use Rattle.chains.specs.ChainNet.{StandInLine, chain_links, entering, entering_at, first_node_of, has_source, is_permitted, leaving, leaving_at}
unfoldable pub use Rattle.chains.specs.ChainNet.{links_of_group, onward, open_link, source_at, stride_link, stride_links, strides_within}
unfoldable pub use Rattle.chains.specs.Depths.{chain_length, depth_of, ranks_used, used_among}
pub use Rattle.chains.specs.Depths.{AreDepths}
pub use Rattle.chains.specs.Gathered.{AreGathered, AreOfOnePair, IsAdded, IsJoined, IsNotAfter, IsPushed, transfer_of}
pub use Rattle.chains.specs.Groups.{AreGroups, HaveSamePartners, StandsIn, StartsChain}
pub use Rattle.chains.specs.Inner.{IsHeatOf, IsInner, IsInnerLink}
pub use Rattle.chains.specs.Making.{ArePartners, ArePermitted, AreSources, HasPartners, IsGroup, IsLike, ListsOnce, sources_in, streams_on, utilities_on}
pub use Rattle.chains.specs.Path.{IsPath, LeadsTo, PathsAreReaches}
pub use Rattle.chains.specs.Ranks.{place_index, rank_count, rank_of}
pub use Rattle.chains.specs.Sizes.{IsSmall}
pub use Rattle.chains.specs.Spread.{IsSpread}
pub use Rattle.chains.specs.Stock.{HasPassed, HaveSetOut, IsFirstShare, IsShare, IsUnderWay, held_at, held_of, moved}
pub use Rattle.chains.specs.Ways.{AreOpen, IsCarried, IsFirstWay, IsWay, left_from, left_in_all, left_into, way_at}
pub use Rattle.chains.specs.declared.depths.Depths.{Depths}
pub use Rattle.chains.specs.declared.links.TheConstants.{STRIDES}
pub use Rattle.chains.specs.declared.net.Chains.{Chains}
pub use Rattle.chains.specs.declared.net.Group.{Group}
pub use Rattle.chains.specs.declared.net.TheConstants.{MOST_INNER_NODES}
pub use Rattle.chains.specs.declared.partners.Partners.{Partners}
pub use Rattle.chains.specs.declared.stock.Share.{Share}
pub use Rattle.chains.specs.declared.ways.Way.{Way}
pub use Rattle.flow_net.proofs.Sums.{sum_below-zero}
pub use Rattle.flow_net.specs.Net.{flow_on, inflow, link_at, outflow}
pub use Rattle.flow_net.specs.declared.net.Link.{Link}
pub use Rattle.flow_net.specs.declared.net.Net.{Net}
pub use Rattle.grid.proofs.PlaceLemmas.{interval_falls}
pub use Rattle.grid.proofs.SizeLemmas.{length-grid}
pub use Rattle.grid.specs.Bounds.{IsBounded}
pub use Rattle.grid.specs.Grid.{IsGrid, places_of}
pub use Rattle.grid.specs.OnGrid.{AreOnGrid, IsOnPlaces}
pub use Rattle.grid.specs.Part.{IsInterval}
pub use Rattle.grid.specs.declared.part.Part.{Part}
pub use Rattle.heat_flow.proofs.Blanks.{blank}
pub use Rattle.heat_flow.proofs.CheckLemmas.{precedes-trans}
pub use Rattle.heat_flow.proofs.ReachLemmas.{both_parts}
pub use Rattle.heat_flow.specs.Cells.{ArePermissions, source_index}
pub use Rattle.heat_flow.specs.Reach.{both_reach, passes_heat, reach_between}
pub use Rattle.heat_flow.specs.declared.flow.Flow.{Flow}
pub use Rattle.heat_flow.specs.declared.flow.Transfer.{Transfer}
pub use Rattle.std.proofs.Math.Bool.{or-false, or-true}
pub use Rattle.std.proofs.Math.ListN.{set}
pub use Rattle.std.proofs.Math.Nat.{le-div_iff_mul-le}
pub use Rattle.std.proofs.Math.Path.{subst₂}
pub use Rattle.std.proofs.lemmas.Bool.{and_from, and_parts, cases_eq, cases_lt, cases_order, eq-eqb, eqb-true, false_from_ne_true, false≢true, le-leb, lt-leb}
pub use Rattle.std.proofs.lemmas.Bool.{ne_eqb, not-true}
pub use Rattle.std.proofs.lemmas.Bool.{not_from_false, or_cases, or_left, or_right}
pub use Rattle.std.proofs.lemmas.Bool.Decides.{Decides-int_eq, not_from_Decides}
pub use Rattle.std.proofs.lemmas.Cmp.{by_ranked, ranked}
pub use Rattle.std.proofs.lemmas.Fn.{always_returns_same}
pub use Rattle.std.proofs.lemmas.Grind.{get_or-set_at}
pub use Rattle.std.proofs.lemmas.Int.{by_lt_z, clamps, ints, to_z-of_z}
pub use Rattle.std.proofs.lemmas.List.{append-nil, flat_map_more, get_or-set_other, get_or-set_same, get_or-take, get_or_default, get_or_read, length-append}
pub use Rattle.std.proofs.lemmas.List.{at_drop_all, at_drop_more, get_or-map, get_or-replicate, length-map, map-append}
pub use Rattle.std.proofs.lemmas.List.{length-replicate, length-set, same_lists, take-append-le, length-take, length-take-le, length_push, nil_from_length}
pub use Rattle.std.proofs.lemmas.List.{take_all, take_more, take_more_set}
pub use Rattle.std.proofs.lemmas.List.Elements.{All-append, All-cons, All-contains, All-drop, All-head, All-map, All-nil, All-pop, All-push, All-set, All-tail}
pub use Rattle.std.proofs.lemmas.List.Elements.{All-weaker, Contains-append_left, Contains-append_right, Contains-get_or, Contains-push, Contains-push_cases}
pub use Rattle.std.proofs.lemmas.List.Folds.{Any-from_list_any, list_any-append, list_any-from_Any, list_any_at}
pub use Rattle.std.proofs.lemmas.List.FromFn.{get_or-enumerate_from, length-enumerate_from, map-range_with_len_more}
pub use Rattle.std.proofs.lemmas.List.Quantifiers.{Any-push, all_pairs_push}
pub use Rattle.std.proofs.lemmas.List.Sorted.{All-permutation, Contains-permutation, IsNonDecreasingBy-from_sort_by_key, IsPartitionPoint-from_clause}
pub use Rattle.std.proofs.lemmas.List.Sorted.{IsPartitionedBy-ltb, IsPermutation-keeps, IsPermutation-sym}
pub use Rattle.std.proofs.lemmas.List.Sums.{AllPass-from_list_all, count_by-le-length, list_all-from_AllPass}
pub use Rattle.std.proofs.lemmas.Nat.{mul-add-lt, mul-le, same_from_place}
pub use Rattle.std.proofs.lemmas.Option.{get_or_from_slice_get, none-some, same_Some, slice_get-get_or, slice_get_read, slice_get_within}
pub use Rattle.std.proofs.lemmas.Result.{IfOk-weaker}
pub use Rattle.std.specs.Fn.{Called, ComputesKey}
pub use Rattle.std.specs.Int.{int_min}
pub use Rattle.std.specs.Int.RustNames.{unsigned_abs}
pub use Rattle.std.specs.List.{enumerate_from, find, flat_map, list_any, range_with_len, swap}
pub use Rattle.std.specs.List.Sorted.{IsNonDecreasingBy, IsPermutation, IsSortedByKey}
pub use Rattle.std.specs.Ordering.{int_eq, is_lt, nat_cmp, ordering_then}
pub use Rattle.std.specs.Prelude.{All, AllPairs, Any, Contains, count_by, if◌then◌else◌, int_lt, negsuc, pos, ℤ, ◌*◌, ◌+ℤ◌, ◌-ℤ◌, ◌<ℤ◌, ◌≤ℤ◌}
pub use Rattle.stream_case.proofs.CaseLemmas.{IsSourceOf-side, length-AreStreams}
pub use Rattle.stream_case.proofs.CompleteLemmas.{AreStreams-IsComplete, StaysValid-IsComplete, length-utilities}
pub use Rattle.stream_case.proofs.SourceLemmas.{own_side, same_side-true, same_source-same, same_source-true}
pub use Rattle.stream_case.specs.Case.{IsComplete, IsSourceOf, IsValidForbid, is_forbidden, side_among, side_of}
pub use Rattle.stream_case.specs.Source.{same_side, same_source}
pub use Rattle.stream_case.specs.Stream.{high_end, stream_ends}
pub use Rattle.stream_case.specs.Utility.{shifted_level}
pub use Rattle.stream_case.specs.declared.case.Case.{Case}
pub use Rattle.stream_case.specs.declared.limits.TheConstants.{ALL_UTILITIES, MOST_HEAT, MOST_PARTS, MOST_PLACES, MOST_STREAMS}
pub use Rattle.stream_case.specs.declared.source.Side.{Side}
pub use Rattle.stream_case.specs.declared.source.Side.TheVariants.{Cold, Hot}
pub use Rattle.stream_case.specs.declared.source.Source.{Source}
pub use Rattle.stream_case.specs.declared.stream.Stream.{Stream}
pub use Rattle.stream_case.specs.declared.utility.Utility.{Utility}
pub use Rattle.sums.proofs.ConsLemmas.{All-cons_if, AllPairs-cons_if}
pub use Rattle.sums.proofs.CountLemmas.{count_by-cons, count_by-map}
pub use Rattle.sums.proofs.EnumerationLemmas.{All-enumerated, enumerate_from-append}
pub use Rattle.sums.proofs.IntegerLemmas.{if_between, if_zero, int_eq-false, int_le-from, int_le-true, int_lt-from, int_lt-true, strictly}
pub use Rattle.sums.proofs.ListLemmas.{All-flat_map, All-slice_get, Contains-flat_map, Contains-slice_get, slice_get_push}
pub use Rattle.sums.proofs.OrderLemmas.{AllPairs-across, AllPairs-append, AllPairs-before, AllPairs-front, AllPairs-head, AllPairs-nil, AllPairs-tail}
pub use Rattle.sums.proofs.OrderLemmas.{Contains-cons, Lists-same, ListsFalling-unique}
pub use Rattle.sums.proofs.SumLemmas.{int_sum_by-append, int_sum_by-cons_if, int_sum_by-equal, int_sum_by-more, int_sum_by-not_negative, int_sum_by-split}
pub use Rattle.sums.proofs.SumLemmas.{int_sum_by-zero}
pub use Rattle.sums.specs.Pairing.{cons_if}
pub use Rattle.sums.specs.Sum.{int_sum_by}
pub use borrow.Author.Tests.{ltb-false, ltb-true}
pub use denote.Enum.Bare.{true_same}
pub use denote.Param.Members.{Mut}
pub use denote.Ref.{Bor}
