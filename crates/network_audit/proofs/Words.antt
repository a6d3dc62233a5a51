-- The words and lemmas from elsewhere that the proofs of this crate speak in, passed on from one place. Declares nothing.
pub use Rattle.fractions.proofs.Comparisons.{Decides-is_below, Decides-not_below, at_most-whole, at_most_trans, positive-nonzero}
pub use Rattle.fractions.proofs.Limits.{Decides-is_within_limits, value_formed, within-ratio, within-whole, within_formed, within_not_formed}
pub use Rattle.fractions.proofs.Products.{over_from_times, times-plus, times-zero, times_comm}
pub use Rattle.fractions.proofs.RationalSums.{rational_sum_by-map}
pub use Rattle.fractions.proofs.Ratios.{minus-ratio_same_den, plus-ratio_same_den, ratio-one, same_from_ratio, times-ratio}
pub use Rattle.fractions.proofs.Sums.{plus-zero, plus_assoc, zero-plus}
pub use Rattle.fractions.proofs.Wholes.{ratio-multiple, whole-plus}
pub use Rattle.fractions.specs.Integers.{pos_above}
pub use Rattle.fractions.specs.Order.{Decides-rational_eq}
pub use Rattle.fractions.specs.Rationals.{Gives, IsAtMost, IsBelow, IsWithinLimits, Rational, is_below, rational_eq, rational_sum, rational_sum_by}
pub use Rattle.fractions.specs.Rationals.{rational_zero, whole}
unfoldable pub use Rattle.fractions.specs.Rationals.{minus, over, plus, ratio, times}
pub use Rattle.network_audit.specs.AllItems.{cost_steps, heat_on, range_items, sum_steps, utility_items_at}
unfoldable pub use Rattle.network_audit.specs.AllItems.{balance_items, heats_on, items, items_behind, utility_items}
pub use Rattle.network_audit.specs.Audit.{Audit, HasAccepted, IfAccepted, IsFaultless, KnowsItsNetwork, Leaves, SaysExactly}
unfoldable pub use Rattle.network_audit.specs.Balance.{balance_of, cold_heat, cost_of, duties_with, duty_with, excess_of, heat_price, heat_with}
pub use Rattle.network_audit.specs.Findings.{HasNoFinding, IsFinding, IsVerdict}
pub use Rattle.network_audit.specs.Items.{IsFormed, Item, Step, Test, end_items, ends_of, ends_stream, exchanger_items_at, finding_of, is_passed, is_reached}
pub use Rattle.network_audit.specs.Items.{line_items, load_items, mean_items, mix_items, pass_items, side_items, split_items, statement_items, stream_items_at}
pub use Rattle.network_audit.specs.Items.{wanted_above}
unfoldable pub use Rattle.network_audit.specs.Items.{exchanger_items, first_finding, is_ended, items_before, stream_items}
unfoldable pub use Rattle.network_audit.specs.Joints.{PassesBelow, crossing_among, crossing_by, joint_among, joints_among, joints_of, noted, passed_joint}
pub use Rattle.network_audit.specs.Table.{balance_in, balance_steps_in, heat_at, heat_items, heat_on_in, joint_duty, joint_items_at, price_in}
unfoldable pub use Rattle.network_audit.specs.Table.{all_heat_items, duties_in, heats_in, heats_on_in, joint_items, prices_in}
pub use Rattle.network_audit.specs.Valid.{IsInRange, IsPermitted, IsValidNetwork}
pub use Rattle.network_audit.specs.declared.findings.Finding.{Finding}
pub use Rattle.network_audit.specs.declared.findings.Place.{Place}
pub use Rattle.network_audit.specs.declared.findings.Reason.{Reason}
pub use Rattle.network_audit.specs.declared.joints.Crossing.{Crossing}
pub use Rattle.network_audit.specs.declared.joints.Joint.{Joint}
pub use Rattle.network_audit.specs.declared.sum.Sum.{Sum}
pub use Rattle.network_audit.specs.declared.verdict.Balance.{Balance}
pub use Rattle.network_audit.specs.declared.verdict.Verdict.{Verdict}
pub use Rattle.network_values.proofs.LineLemmas.{mix_determined, mixed_positive, pass_determined, same_value, split_determined}
pub use Rattle.network_values.proofs.LoadLemmas.{loads_kept}
pub use Rattle.network_values.proofs.SignLemmas.{targets_met}
pub use Rattle.network_values.proofs.ValuationLemmas.{agree-take, each_first, one_valuation, room_left, valuation_front}
pub use Rattle.network_values.proofs.WholeLemmas.{all_solved, branch_above, item_at}
pub use Rattle.network_values.specs.Made.{LeavesRoom, front, heat_of_both, made_values, mixed_value, moved, passed_value}
pub use Rattle.network_values.specs.Penalties.{hot_heat, utility_part}
pub use Rattle.network_values.specs.Sides.{KeepsApproach, SideRun, fixed_level, level_or, pass_run, passed_run, run_between}
unfoldable pub use Rattle.network_values.specs.Sides.{side_run}
pub use Rattle.network_values.specs.Values.{IsFullEnd, IsMix, IsPartOfLoad, IsPass, IsSplit, IsValuation, IsWholeValuation, PassKeepsLoad}
pub use Rattle.network_values.specs.Values.{Solves, Valuation, change, duty_of, ends, first_part_of_load, first_state, first_value, full_size, last_state}
pub use Rattle.network_values.specs.Values.{last_value, no_value, value_at}
unfoldable pub use Rattle.network_values.specs.Values.{branch_side, duty_at, ended_by, ended_streams, is_latent_branch}
pub use Rattle.network_values.specs.declared.values.BranchValue.{BranchValue}
pub use Rattle.networks.proofs.Lists.{all_at, slice_get-take}
pub use Rattle.networks.proofs.OfShape.{IsLineOf, all_made, line_of, line_read, made_fewer, made_no_more, names-known, streams_first, the_pass_of}
pub use Rattle.networks.specs.Lines.{Exchanger, exchanger_of, is_pass_of, uses}
unfoldable pub use Rattle.networks.specs.Lines.{exchangers_of, made_by, pass_of, stream_at}
pub use Rattle.networks.specs.Shape.{HasShape, IsExchanger, NamesKnown, made_before}
pub use Rattle.networks.specs.declared.network.Branch.{Branch}
pub use Rattle.networks.specs.declared.network.Line.{Line}
pub use Rattle.networks.specs.declared.network.Network.{Network}
pub use Rattle.problem_table.proofs.DeficitLemmas.{hot_target-between}
pub use Rattle.problem_table.specs.Deficit.{hot_target}
pub use Rattle.std.proofs.Math.Bool.{not-not}
pub use Rattle.std.proofs.Math.Nat.{le_of_mul-le-mul_right, mul-le-mul, mul-pos}
pub use Rattle.std.proofs.Math.Seq.{take-length}
pub use Rattle.std.proofs.lemmas.Bool.{cases_lt, false≢true}
pub use Rattle.std.proofs.lemmas.Bool.Decides.{nat_tests}
pub use Rattle.std.proofs.lemmas.Int.{ints, unsigned_abs-mul}
pub use Rattle.std.proofs.lemmas.List.{append-nil, get_or_default, get_or_past, length-map, map-append, take-append-drop, take_all, take_more, take_more_set}
pub use Rattle.std.proofs.lemmas.List.Concat.{flat_map-append}
pub use Rattle.std.proofs.lemmas.List.Elements.{All-append, All-cons, All-from_recursion, All-head, All-map, All-nil, All-tail, filter_map-append}
pub use Rattle.std.proofs.lemmas.List.Folds.{find-append}
pub use Rattle.std.proofs.lemmas.List.FromFn.{get_or-enumerate_from, length-enumerate_from}
pub use Rattle.std.proofs.lemmas.Option.{get_or_from_slice_get, none-some, same_Some, slice_get-get_or, slice_get_within}
pub use Rattle.std.proofs.lemmas.Result.{err_from_is_err_and}
pub use Rattle.std.specs.List.{cons_option, enumerate_from, filter_map, list_any, range_with_len}
pub use Rattle.std.specs.Option.{option_map_or, option_or}
pub use Rattle.stream_case.proofs.CaseLemmas.{IsSourceOf-side, length-AreStreams}
pub use Rattle.stream_case.proofs.CompleteLemmas.{AreStreams-IsComplete, HasValidStreams-IsComplete, IsPlaced-IsComplete, IsUtility, StaysValid-IsComplete}
pub use Rattle.stream_case.proofs.CompleteLemmas.{length-utilities}
pub use Rattle.stream_case.proofs.ListLemmas.{All-back, All-front}
pub use Rattle.stream_case.specs.Case.{IsComplete, IsSourceOf, is_forbidden, side_of}
pub use Rattle.stream_case.specs.Limits.{IsBetween, IsContribution, IsLevel, IsTemperature}
pub use Rattle.stream_case.specs.Source.{same_side, same_source}
pub use Rattle.stream_case.specs.Stream.{IsLatent, IsSensible, IsValidStream, is_latent}
pub use Rattle.stream_case.specs.Utility.{IsPlaced}
pub use Rattle.stream_case.specs.declared.case.Case.{Case}
pub use Rattle.stream_case.specs.declared.limits.TheConstants.{HIGHEST_LEVEL, MOST_CONTRIBUTION, MOST_LOAD}
pub use Rattle.stream_case.specs.declared.source.Side.{Side}
pub use Rattle.stream_case.specs.declared.source.Source.{Source}
pub use Rattle.stream_case.specs.declared.stream.Stream.{Stream}
pub use Rattle.stream_case.specs.declared.utility.Utility.{Utility}
pub use Rattle.sums.proofs.EnumerationLemmas.{All-enumerated, enumerate_from-append}
pub use Rattle.sums.proofs.FirstLemmas.{first-append, first-behind, first-front, first-here, first-more, first-none, items-more, items_of}
pub use Rattle.sums.proofs.ListLemmas.{All-flat_map}
pub use Rattle.sums.proofs.ProductLemmas.{*ℤ_cancel_right}
