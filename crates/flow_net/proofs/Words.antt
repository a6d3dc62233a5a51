-- The words and lemmas from elsewhere that the proofs of this crate speak in, passed on from one place. Declares nothing.
pub use Rattle.flow_net.specs.Arc.{AppendsWays, AreFirstIndices, ArePlaces, HasRange, HoldsArcsBelow, IsAdjacency, IsArc, IsArcBelow, IsFirstIndex, arc_of}
pub use Rattle.flow_net.specs.Arc.{arcs_at, carry, place_in, place_of, placed, places_at, turned}
pub use Rattle.flow_net.specs.Flow.{AreApart, AreResiduals, CanCarry, IsPotential, IsPriced, IsPricedBetween, IsResidual, IsResidualOf, IsWalk, most_distance}
pub use Rattle.flow_net.specs.Flow.{most_path_cost}
pub use Rattle.flow_net.specs.Flow.{reduced_between, reduced_cost_of, residual_at, residual_of, sent_along, sent_along_path}
pub use Rattle.flow_net.specs.LevelGraph.{IsLevelGraph, StepsUp, height_at, height_of, level_at}
pub use Rattle.flow_net.specs.Net.{AreBounded, AreEnds, AreProofOfLeast, IsCost, IsCutBelow, IsLeastRouting, IsRouting, IsWithinLimits, IsWithinRooms, cost_of}
pub use Rattle.flow_net.specs.Net.{flow_on, greatest_size, inflow, is_in, largest_cost, leaves, link_at, outflow, potential_at, reduced_cost}
pub use Rattle.flow_net.specs.Problem.{IsBottleneck, IsFreeArc, IsFreePath, IsProblem, IsRange, IsResidualArc, IsStanding, Stands, arc_by_index}
pub use Rattle.flow_net.specs.Queue.{IsNext, entries_of, entry}
pub use Rattle.flow_net.specs.Search.{HasArrived, HasQueue, Improves, IsAt, IsClosed, IsClosedAt, IsQueued, IsSearch, IsStuck, IsTree, IsTreeArc, IsTreePath}
pub use Rattle.flow_net.specs.Search.{arc_at, arc_of_label, depth_at, index_of_label, is_labelled, label_at, distance_at, rise_of, distance_of_label, rise_or}
pub use Rattle.flow_net.specs.Sum.{sum_below}
pub use Rattle.flow_net.specs.Threads.{AppendsThread, AreThreads, HaveSameArcs, IsNextOfTail, IsOfTail, StandOnce, arc_numbered}
pub use Rattle.flow_net.specs.declared.adjacency.Adjacency.{Adjacency}
pub use Rattle.flow_net.specs.declared.adjacency.Places.{Places}
pub use Rattle.flow_net.specs.declared.arc.Arc.{Arc}
pub use Rattle.flow_net.specs.declared.limits.TheConstants.{MOST_COST, MOST_INITIAL_POTENTIAL, MOST_NODES}
pub use Rattle.flow_net.specs.declared.net.Link.{Link}
pub use Rattle.flow_net.specs.declared.net.Net.{Net}
pub use Rattle.flow_net.specs.declared.problem.Problem.{Problem}
pub use Rattle.flow_net.specs.declared.queue.Queue.{Queue}
pub use Rattle.flow_net.specs.declared.routing.Routing.{Routing}
pub use Rattle.flow_net.specs.declared.search.Label.{Label}
pub use Rattle.flow_net.specs.declared.search.Search.{Search}
pub use Rattle.flow_net.specs.declared.residual.Residual.{Residual}
pub use Rattle.std.proofs.Math.IntN.{*ℤ-zero, neg_ℤ-neg_ℤ, zero-*ℤ}
pub use Rattle.std.proofs.lemmas.Bool.{cases_Bool, cases_eq, cases_lt, eq-eqb, false≢true, ne_eqb}
pub use Rattle.std.proofs.lemmas.Int.{by_lt_z, clamps, ints, to_z-of_z}
pub use Rattle.std.proofs.lemmas.List.{append_assoc, drop_more, get_or-replicate, get_or-set_other, get_or-set_same, get_or_append_left, get_or_past}
pub use Rattle.std.proofs.lemmas.List.{append-nil, get_or-append_right, get_or_default, get_or_push}
pub use Rattle.std.proofs.lemmas.List.{get_or_read, length-replicate, length-set, length_push, map-append, reverse-append, take_all, take_more}
pub use Rattle.std.proofs.lemmas.List.Elements.{All-append, All-cons, All-contains, All-head, All-map, All-nil, All-pop, All-push, All-tail}
pub use Rattle.std.proofs.lemmas.List.Elements.{All-weaker, Contains-append_left, Contains-append_right, Contains-get_or, Contains-push}
pub use Rattle.std.proofs.lemmas.List.Quantifiers.{Any-push}
pub use Rattle.std.proofs.lemmas.List.Sorted.{All-permutation, Contains-permutation}
pub use Rattle.std.proofs.lemmas.List.Sorted.{IsPermutation-append_right, IsPermutation-middle, IsPermutation-refl, IsPermutation-reverse}
pub use Rattle.std.proofs.lemmas.List.Sorted.{IsPermutation-sym, IsPermutation-trans, length_permutation}
pub use Rattle.std.proofs.lemmas.List.Sums.{count_by-le-length, fold_more, sum_by-set}
pub use Rattle.std.proofs.lemmas.Nat.{mul-le}
pub use Rattle.std.proofs.lemmas.Option.{none-some, same_Some}
pub use Rattle.std.proofs.lemmas.Result.{on_ok_weaker}
pub use Rattle.std.specs.BinaryHeap.{heap_items}
pub use Rattle.std.specs.Int.{int_min}
pub use Rattle.std.specs.Int.RustNames.{unsigned_abs}
pub use Rattle.std.specs.List.{All, Any, Contains}
pub use Rattle.std.specs.List.Sorted.{IsPermutation}
pub use Rattle.std.specs.Option.{option_map}
pub use Rattle.std.specs.declared.cmp.Reverse.{Reverse}
pub use Rattle.sums.proofs.IntegerLemmas.{strictly}
pub use Rattle.sums.proofs.OrderLemmas.{AllPairs-append, Contains-cons}
pub use Rattle.sums.proofs.ProductLemmas.{*ℤ-+ℤ, *ℤ--ℤ, *ℤ-≤ℤ_left, +ℤ-*ℤ, -ℤ-*ℤ, product_not_negative}
pub use borrow.Author.Differences.{down, up}
pub use borrow.Author.Tests.{ltb-false, ltb-true}
