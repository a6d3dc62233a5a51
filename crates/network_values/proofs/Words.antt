-- The words and lemmas from elsewhere that the proofs of this crate speak in, passed on from one place. Declares nothing.
pub use Rattle.fractions.proofs.Comparisons.{Decides-is_below, Decides-is_le, at_most-minus_minus, at_most-minus_right, at_most-minus_swap, at_most-plus_left}
pub use Rattle.fractions.proofs.Comparisons.{at_most-plus_plus, at_most-plus_right, at_most-times, at_most-times_left, at_most-whole, at_most_antisymm}
pub use Rattle.fractions.proofs.Comparisons.{at_most_from_below, at_most_from_not_below, at_most_from_not_negative, at_most_from_plus, at_most_from_same}
pub use Rattle.fractions.proofs.Comparisons.{at_most_refl, at_most_trans, below-whole, below_at_most_trans, below_from_positive, below_not_at_most}
pub use Rattle.fractions.proofs.Comparisons.{below_not_same, below_or_at_most, is_below-ranks, not_negative-minus, not_negative-plus, not_negative-times}
pub use Rattle.fractions.proofs.Comparisons.{positive-is, positive-minus, positive-nonzero, positive-plus, positive_factor, times-turned}
pub use Rattle.fractions.proofs.Products.{plus-times, times-minus, times-over, times-zero, times_cancel_right, times_comm, times_swap, zero-times}
pub use Rattle.fractions.proofs.Ratios.{by_three, one_denominator}
pub use Rattle.fractions.proofs.Sums.{minus-interchange, minus-minus_same, minus-minus_self, minus-plus, minus-self, minus-zero, minus_from_plus, plus-minus}
pub use Rattle.fractions.proofs.Sums.{plus-zero, plus_assoc, plus_cancel_left, plus_comm, zero-plus}
pub use Rattle.fractions.proofs.Wholes.{whole-minus, whole-plus, whole-times}
unfoldable pub use Rattle.fractions.specs.Lowest.{gcd, last_remainder}
pub use Rattle.fractions.specs.LowestForms.{same_from_fields}
pub use Rattle.fractions.specs.Rationals.{IsAtMost, IsBelow, Rational, is_below, rational_sum_by, rational_zero, whole}
unfoldable pub use Rattle.fractions.specs.Rationals.{lowest_form, minus, over, plus, ratio, rational_cmp, times}
pub use Rattle.network_values.specs.Courses.{Course, IsBetweenValues, Latent, PassesTakeShares, Sensible, SharesRise, height_on, side_on}
pub use Rattle.network_values.specs.Heights.{HasDuty, View, height, is_above, share, share_in}
unfoldable pub use Rattle.network_values.specs.Heights.{positive_part}
pub use Rattle.network_values.specs.Made.{LeaveRoom, LeavesRoom, first_part, front, heat_of_both, made_values, mixed_value, moved, passed_value, second_part}
pub use Rattle.network_values.specs.Mixes.{MixesLoseHeight, height_above}
pub use Rattle.network_values.specs.OneScale.{ExchangersRunOnOneScale, RunsOnOneScale, shifted_run}
pub use Rattle.network_values.specs.Penalties.{inlet_height, outlet_height}
pub use Rattle.network_values.specs.Sides.{Between, KeepApproaches, KeepsApproach, Level, SideRun, contribution_of, fixed_level, high_of, level_or, low_of}
pub use Rattle.network_values.specs.Sides.{pass_run, run_between, seen_from, stream_level}
unfoldable pub use Rattle.network_values.specs.Sides.{side_run}
pub use Rattle.network_values.specs.Values.{AreEnded, IsFullEnd, IsMix, IsPartOfLoad, IsPass, IsSplit, IsValuation, IsWholeValuation, KeepsLoad, LoadsAreKept}
pub use Rattle.network_values.specs.Values.{PassKeepsLoad, Solves, Valuation, change, duty_of, ends, first_part_of_load, first_state, first_value, full_size}
pub use Rattle.network_values.specs.Values.{last_part_of_load, last_state, last_value, no_value, value_at}
unfoldable pub use Rattle.network_values.specs.Values.{branch_side, duty_at, ended_by, ended_streams, is_latent_branch}
pub use Rattle.network_values.specs.Weights.{EndOnce, IsAdditive, StreamsEndOnce, Weight, WeightsBalance, mix_loss, pass_loss, stream_loss, weight_at}
pub use Rattle.network_values.specs.declared.values.BranchValue.{BranchValue}
pub use Rattle.networks.proofs.Lists.{all_at, slice_get-take}
pub use Rattle.networks.proofs.OfShape.{HasNumbers, all_made, count-passages, declared_parts, line_at, line_of, made_fewer, own_stream, stands_at}
pub use Rattle.networks.proofs.OfShape.{stream_within, streams_first, the_pass_of, used_there, used_within}
pub use Rattle.networks.specs.Lines.{Exchanger, is_pass_of, makes, uses}
unfoldable pub use Rattle.networks.specs.Lines.{exchangers_of, made_by, pass_of, stream_at, used_by}
pub use Rattle.networks.specs.Shape.{AreMadeInOrder, HasPositiveSize, HasShape, IsExchanger, IsOfOneStream, Joins, made_before}
pub use Rattle.networks.specs.declared.network.Branch.{Branch}
pub use Rattle.networks.specs.declared.network.Line.{Line}
pub use Rattle.networks.specs.declared.network.Network.{Network}
pub use Rattle.problem_table.proofs.DeficitLemmas.{hot_target-bound}
pub use Rattle.problem_table.specs.Deficit.{CountsFromItself, HasTightDeficit, deficit_above, deficit_over, end_deficits, hot_target}
pub use Rattle.problem_table.specs.Sides.{sum_side}
pub use Rattle.std.proofs.Math.Bool.{and-false}
pub use Rattle.std.proofs.Math.Seq.{take-length}
pub use Rattle.std.proofs.lemmas.Bool.{cases_eq, cases_lt, false≢true}
pub use Rattle.std.proofs.lemmas.Bool.Decides.{nat_tests, same_from_decides}
pub use Rattle.std.proofs.lemmas.Int.{by_lt_z, clamps, fold-int_max_reached, ints}
pub use Rattle.std.proofs.lemmas.List.{get_or-map, length-map}
pub use Rattle.std.proofs.lemmas.List.Elements.{All-append, All-cons, All-from_recursion, All-head, All-map, All-nil, All-push, All-tail, All-take, All-weaker}
pub use Rattle.std.proofs.lemmas.List.Elements.{Contains-get_or}
pub use Rattle.std.proofs.lemmas.List.FromFn.{get_or-range_with_len, length-range_with_len}
pub use Rattle.std.proofs.lemmas.Option.{get_or_from_slice_get, same_Some, slice_get-get_or, slice_get_within}
pub use Rattle.std.specs.Bool.{IsTrue}
pub use Rattle.std.specs.Int.{int_max}
pub use Rattle.std.specs.List.{enumerate_from, list_any, range_with_len}
pub use Rattle.std.specs.Option.{option_map_or}
pub use Rattle.std.specs.Ordering.{is_le}
pub use Rattle.std.specs.Prelude.{All, Contains, codes}
pub use Rattle.stream_case.proofs.CompleteLemmas.{AreStreams-IsComplete}
pub use Rattle.stream_case.proofs.HeatLemmas.{heat_over-latent, heat_over-sensible, is_latent-latent, is_latent-sensible}
pub use Rattle.stream_case.specs.Case.{IsComplete, side_of}
pub use Rattle.stream_case.specs.Shift.{shifted}
pub use Rattle.stream_case.specs.Source.{is_hot, same_side}
pub use Rattle.stream_case.specs.Stream.{IsLatent, IsSensible, IsValidStream, counts_above, high_end, is_latent, low_end, stream_ends}
pub use Rattle.stream_case.specs.declared.case.Case.{Case}
pub use Rattle.stream_case.specs.declared.source.Side.{Side}
pub use Rattle.stream_case.specs.declared.source.Source.{Source}
pub use Rattle.stream_case.specs.declared.stream.Stream.{Stream}
pub use Rattle.stream_case.specs.declared.utility.Utility.{Utility}
pub use Rattle.sums.proofs.CountLemmas.{found, none_any}
pub use Rattle.sums.proofs.EnumerationLemmas.{range_with_len-append}
pub use Rattle.sums.proofs.IntegerLemmas.{int_le-from, int_le-true, int_lt-from, int_lt-true}
pub use Rattle.sums.proofs.ListLemmas.{All-flat_map, Contains-slice_get, slice_get-append}
pub use Rattle.sums.proofs.ProductLemmas.{*ℤ--ℤ}
pub use Rattle.sums.proofs.SumLemmas.{int_sum_by-sub}
pub use Rattle.sums.specs.Sum.{int_sum_by}
pub use mathlib.Core.Path.{subst₂}
