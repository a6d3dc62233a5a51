-- The words and lemmas from elsewhere that the proofs of this crate speak in, passed on from one place. Declares nothing.
pub use Rattle.fractions.proofs.Products.{plus-times, times-minus, times-one, times-plus, times-zero, times_comm, zero-times}
pub use Rattle.fractions.proofs.RationalSums.{at_most-enumerated, left_of, not_negative-rational_sum_by, rational_sum_by-minus}
pub use Rattle.fractions.proofs.RationalSums.{rational_sum_by-plus, rational_sum_by-same, rational_sum_by-swap, rational_sum_by-whole, rational_sum_by-zero}
pub use Rattle.fractions.proofs.RationalSums.{sum-enumerate, sum-enumerated, sum-filter_map, sum-items, sum-picked, sum_over_used}
pub use Rattle.fractions.proofs.Ratios.{by_four, one_denominator}
pub use Rattle.fractions.proofs.Sums.{minus-interchange, minus-plus, minus-self, minus-zero, plus-interchange, plus-minus, plus-zero, plus_assoc, plus_comm}
pub use Rattle.fractions.proofs.Sums.{plus_swap_right, there_and_back, zero-plus}
pub use Rattle.fractions.proofs.Wholes.{whole-minus, whole-plus, whole-times}
pub use Rattle.fractions.specs.Rationals.{IsAtMost, IsBelow, Rational, rational_sum_by, rational_zero, whole}
unfoldable pub use Rattle.fractions.specs.Rationals.{minus, plus, times}
pub use Rattle.grid.proofs.MakingLemmas.{AreParts-made, HoldsPlaces-IsGrid, holds_ends}
pub use Rattle.grid.proofs.OnGridLemmas.{parts_on_grid, side_of_part}
pub use Rattle.grid.proofs.PlaceLemmas.{interval_below, interval_ends, interval_falls}
pub use Rattle.grid.proofs.SizeLemmas.{IsBounded-part}
pub use Rattle.grid.specs.Grid.{HoldsPlaces, IsGrid, places_of}
pub use Rattle.grid.specs.Making.{covers, interval_parts, is_here, made_parts, picked, stands_at}
pub use Rattle.grid.specs.OnGrid.{IsOnPlaces}
pub use Rattle.grid.specs.Part.{AreCaseParts, AreParts, IsInterval, IsPartOf, comes_before, comes_before_source, stands_above, stream_part, utility_part}
pub use Rattle.grid.specs.declared.part.Part.{Part}
pub use Rattle.heat_flow.specs.Certificate.{IsCutOf, IsLeastCostOf}
pub use Rattle.heat_flow.specs.Prices.{IsSupporting, excess_price, least_product, price_at, side_value, value_of}
pub use Rattle.heat_flow.specs.Reach.{both_reach, part_reaches, passes_heat, reach_between}
pub use Rattle.heat_flow.specs.Table.{reaches}
pub use Rattle.network_audit.proofs.VerdictLemmas.{known_network}
pub use Rattle.network_audit.proofs.HeatLemmas.{part-own, source_on}
pub use Rattle.network_audit.specs.Balance.{duty_with, heat_price, heat_with}
unfoldable pub use Rattle.network_audit.specs.Balance.{cost_of, duties_with}
pub use Rattle.network_audit.specs.Valid.{IsInRange, IsPermitted, IsValidNetwork}
pub use Rattle.network_values.proofs.CourseLemmas.{height_on-additive, height_on-mixed, shares_rise}
pub use Rattle.network_values.proofs.PassLemmas.{passes_by_side, side_taken, sides_taken}
pub use Rattle.network_values.proofs.ScaleLemmas.{branch_height, run_of, run_on_scale}
pub use Rattle.network_values.proofs.ShareLemmas.{hot_shares_lead, shares_parts}
pub use Rattle.network_values.proofs.StreamStates.{full_size-latent, full_size-sensible}
pub use Rattle.network_values.proofs.WeightLemmas.{weight_balance}
pub use Rattle.network_values.proofs.WholeHeights.{is_above-whole}
pub use Rattle.network_values.proofs.WholeLemmas.{all_solved, branch_above, item_at}
pub use Rattle.network_values.specs.Heights.{HasDuty, View, is_above, share, share_in}
pub use Rattle.network_values.specs.OneScale.{shifted_run}
pub use Rattle.network_values.specs.Penalties.{absorbed_heat, course_of, given_by, height_at, height_in, inlet_height, outlet_height, released_heat, unshifted}
pub use Rattle.network_values.specs.Sides.{Between, KeepApproaches, Level, SideRun, seen_from}
unfoldable pub use Rattle.network_values.specs.Sides.{side_run}
pub use Rattle.network_values.specs.Values.{AreEnded, IsWholeValuation, Solves, Valuation, first_part_of_load, first_value, full_size, last_part_of_load}
pub use Rattle.network_values.specs.Values.{last_value, value_at}
pub use Rattle.network_values.specs.Weights.{IsAdditive, mix_loss, pass_loss, stream_loss, weight_at}
pub use Rattle.network_values.specs.declared.values.BranchValue.{BranchValue}
pub use Rattle.networks.proofs.Lists.{all_at}
pub use Rattle.networks.proofs.OfShape.{stream_within, used_there}
pub use Rattle.networks.specs.Lines.{Exchanger, uses}
unfoldable pub use Rattle.networks.specs.Lines.{exchangers_of, stream_at}
pub use Rattle.networks.specs.Shape.{HasShape, IsExchanger, IsOfOneStream}
pub use Rattle.networks.specs.declared.network.Line.{Line}
pub use Rattle.networks.specs.declared.network.Network.{Network}
pub use Rattle.price_floor.specs.Floor.{NoCutStands, NoNetworkCostsLess}
pub use Rattle.price_floor.proofs.PartPrices.{counts_for, greatest_price, price_steps, tariff_of}
pub use Rattle.price_floor.specs.Steps.{AreAtMost, AreFalling, FallTo, IsOrderedTariff, StepPrices, Tariff, last_price, rise_worth, step_worth}
unfoldable pub use Rattle.price_floor.specs.Uses.{UsesAreOrdered, use_worth, used_by, used_heat, worth_of_uses}
pub use Rattle.price_floor.specs.Views.{comes_below}
pub use Rattle.price_floor.proofs.PlaceViews.{views_of}
unfoldable pub use Rattle.price_floor.specs.Worths.{WorthsAreOrdered, branch_worth, cold_worth, hot_worth, utility_worth, value_worth}
pub use Rattle.std.proofs.lemmas.Bool.{cases_Bool, cases_eq, cases_lt, eqb-true, false_from_ne_true, true≢false}
pub use Rattle.std.proofs.lemmas.Bool.Decides.{Decides-int_eq}
pub use Rattle.std.proofs.lemmas.Int.{by_lt_z, clamps, ints, to_z-of_z}
pub use Rattle.std.proofs.lemmas.List.Elements.{All-cons, All-contains, All-contains_itself, All-head, All-nil, All-tail, All-weaker, Contains-append_right}
pub use Rattle.std.proofs.lemmas.List.Folds.{Any-from_list_any, list_any-from_Any}
pub use Rattle.std.proofs.lemmas.List.FromFn.{get_or-map-range_with_len}
pub use Rattle.std.proofs.lemmas.Option.{same_Some, slice_get_past, slice_get_within}
pub use Rattle.std.specs.Int.{int_max, int_min, w128}
pub use Rattle.std.specs.List.{enumerate_from, list_any, range_with_len}
pub use Rattle.std.specs.Option.{option_map_or}
pub use Rattle.std.specs.Ordering.{int_eq}
pub use Rattle.std.specs.Prelude.{AllPairs, Contains, IsTrue, if◌then◌else◌, int_le, int_lt, negsuc, pos, ℤ, ◌*ℤ◌, ◌+ℤ◌, ◌-ℤ◌, ◌<ℤ◌, ◌≤ℤ◌}
pub use Rattle.stream_case.proofs.CaseLemmas.{IsSourceOf-side, other_source}
pub use Rattle.stream_case.proofs.CompleteLemmas.{AreStreams-IsComplete, IsPlaced-IsComplete}
pub use Rattle.stream_case.proofs.EndLemmas.{level-latent, order-sensible}
pub use Rattle.stream_case.proofs.HeatLemmas.{heat_over-latent, heat_over-sensible, is_latent-latent, is_latent-sensible}
pub use Rattle.stream_case.proofs.SourceLemmas.{own_side, same_side-true, same_source-same, same_source-true}
pub use Rattle.stream_case.specs.Case.{IsComplete, IsSourceOf, is_forbidden, side_of}
pub use Rattle.stream_case.specs.Shift.{shifted}
pub use Rattle.stream_case.specs.Source.{same_side, same_source}
pub use Rattle.stream_case.specs.Stream.{IsLatent, IsSensible, IsValidStream, counts_above, heat_over, high_end, is_latent, length_above, load_over, low_end}
pub use Rattle.stream_case.specs.Stream.{sensible_above}
pub use Rattle.stream_case.specs.Utility.{IsPlaced, shifted_level}
pub use Rattle.stream_case.specs.declared.case.Case.{Case}
pub use Rattle.stream_case.specs.declared.source.Side.{Side}
pub use Rattle.stream_case.specs.declared.source.Source.{Source}
pub use Rattle.stream_case.specs.declared.stream.Stream.{Stream}
pub use Rattle.stream_case.specs.declared.utility.Utility.{Utility}
pub use Rattle.sums.proofs.ConsLemmas.{AllPairs-cons_if}
pub use Rattle.sums.proofs.EnumerationLemmas.{All-enumerated}
pub use Rattle.sums.proofs.IntegerLemmas.{if_zero, int_le-false, int_le-from, int_le-true, int_lt-false, int_lt-from, int_lt-true}
pub use Rattle.sums.proofs.ListLemmas.{All-slice_get}
pub use Rattle.sums.proofs.OrderLemmas.{AllPairs-head, AllPairs-nil, AllPairs-tail, Contains-cons, ListsFalling-unique}
pub use Rattle.sums.proofs.ProductLemmas.{*ℤ--ℤ}
pub use Rattle.sums.proofs.SumLemmas.{int_sum_by-append, int_sum_by-cons_if, int_sum_by-same}
pub use Rattle.sums.specs.Sum.{int_sum_by, int_sum_from}
pub use mathlib.Core.Path.{subst₂}
