-- The words and lemmas from elsewhere that the proofs of this crate speak in, passed on from one place. Declares nothing.
pub use Rattle.fractions.proofs.Limits.{value_formed}
pub use Rattle.fractions.proofs.Products.{times-zero}
pub use Rattle.fractions.proofs.RationalSums.{rational_sum_by-append, rational_sum_by-map}
pub use Rattle.fractions.proofs.Sums.{minus-self, zero-plus}
pub use Rattle.fractions.specs.Rationals.{Gives, IsAtMost, Rational, is_below, rational_sum_by, rational_zero, whole}
unfoldable pub use Rattle.fractions.specs.Rationals.{minus, plus, times}
pub use Rattle.network_audit.proofs.JointLemmas.{length-joints}
pub use Rattle.network_audit.specs.Audit.{Audit, HasAccepted, KnowsItsNetwork}
pub use Rattle.network_audit.specs.Balance.{excess_of}
pub use Rattle.network_audit.specs.Items.{Item, Step, too_fine}
unfoldable pub use Rattle.network_audit.specs.Items.{first_finding}
pub use Rattle.network_audit.specs.Joints.{joints_of}
pub use Rattle.network_audit.specs.Valid.{IsValidNetwork}
pub use Rattle.network_audit.specs.declared.findings.Place.{Place}
pub use Rattle.network_audit.specs.declared.joints.Joint.{Joint}
pub use Rattle.network_values.proofs.PenaltyLemmas.{penalties_excess}
pub use Rattle.network_values.proofs.SignLemmas.{penalties_sign}
pub use Rattle.network_values.proofs.ValuationLemmas.{one_valuation}
pub use Rattle.network_values.specs.Courses.{Course, Latent, Sensible, height_on}
pub use Rattle.network_values.specs.Heights.{View, height}
unfoldable pub use Rattle.network_values.specs.Heights.{positive_part}
pub use Rattle.network_values.specs.Penalties.{HasNoNegativePenalty, IsReferenceView, absorbed_heat, base_of, course_of, height_at, inlet_height, outlet_height}
pub use Rattle.network_values.specs.Penalties.{penalty, released_heat, stream_height, unshifted}
unfoldable pub use Rattle.network_values.specs.Penalties.{heights}
pub use Rattle.network_values.specs.Sides.{KeepApproaches}
pub use Rattle.network_values.specs.Values.{AreEnded, IsWholeValuation, Valuation, no_value, value_at}
pub use Rattle.network_values.specs.Weights.{mix_loss}
pub use Rattle.network_values.specs.declared.values.BranchValue.{BranchValue}
pub use Rattle.networks.proofs.LineLaws.{few_exchangers}
pub use Rattle.networks.proofs.Lists.{all_at}
pub use Rattle.networks.specs.Lines.{Exchanger}
unfoldable pub use Rattle.networks.specs.Lines.{exchangers_of, pass_of, stream_at}
pub use Rattle.networks.specs.Shape.{HasShape}
pub use Rattle.networks.specs.declared.network.Branch.{Branch}
pub use Rattle.networks.specs.declared.network.Line.{Line}
pub use Rattle.networks.specs.declared.network.Network.{Network}
pub use Rattle.penalties.specs.Answers.{Finds, Formed, IsNotNegative, ListsPenalties, sum_of}
unfoldable pub use Rattle.penalties.specs.Rows.{exchanger_row, exchanger_rows, mix_row, mix_rows, penalties_of}
pub use Rattle.penalties.specs.Steps.{absorbed_steps, branch_steps, course_steps, exchanger_steps, latent_steps, line_steps, released_steps}
pub use Rattle.penalties.specs.Steps.{sensible_steps, side_pass, stream_steps, taken_steps}
unfoldable pub use Rattle.penalties.specs.Steps.{all_exchanger_steps, all_mix_steps}
pub use Rattle.penalties.specs.Survey.{seen_height, seen_steps, values_of, view_of}
unfoldable pub use Rattle.penalties.specs.Tables.{absorbed_by, all_joint_steps, joint_penalty, joint_row, joint_rows, joint_steps, released_by}
pub use Rattle.penalties.specs.declared.heights.Survey.{Survey}
pub use Rattle.penalties.specs.declared.list.Penalty.{Penalty}
pub use Rattle.penalties.specs.declared.list.TooFine.{TooFine}
pub use Rattle.problem_table.specs.Deficit.{CountsFromItself, IsReferencePlace}
pub use Rattle.std.proofs.lemmas.Int.{ints, to_z-of_z}
pub use Rattle.std.proofs.lemmas.List.{map-append}
pub use Rattle.std.proofs.lemmas.List.Elements.{All-append, All-cons, All-head, All-map, All-nil, All-same, All-tail, All-weaker, filter_map-append}
pub use Rattle.std.specs.Bool.{IsTrue}
pub use Rattle.std.specs.List.{enumerate_from, filter_map, flat_map}
pub use Rattle.stream_case.proofs.CompleteLemmas.{AreStreams-IsComplete, HasValidStreams-IsComplete}
pub use Rattle.stream_case.specs.Limits.{IsShifted}
pub use Rattle.stream_case.specs.Shift.{shifted}
pub use Rattle.stream_case.specs.Stream.{AreStreams, IsValidStream, counts_above, is_latent}
pub use Rattle.stream_case.specs.declared.case.Case.{Case}
pub use Rattle.stream_case.specs.declared.source.Side.{Side}
pub use Rattle.stream_case.specs.declared.source.Source.{Source}
pub use Rattle.stream_case.specs.declared.stream.Stream.{Stream}
pub use Rattle.sums.proofs.EnumerationLemmas.{All-enumerated}
pub use Rattle.sums.proofs.FirstLemmas.{enumerated-more, first-here, first-more, first-none, items_of}
