-- No penalty is negative, and the targets are met.
use Rattle.network_values.proofs.Words.{All-append, All-map, Case, Exchanger, HasShape, IsAtMost, IsBelow, IsOfOneStream, IsWholeValuation}
use Rattle.network_values.proofs.Words.{KeepApproaches, KeepsApproach, Line, Network, Rational, RunsOnOneScale, Solves, Source, Valuation, View}
use Rattle.network_values.proofs.Words.{at_most_from_below, at_most_from_not_negative, at_most_from_same, at_most_refl, at_most_trans, deficit_over}
use Rattle.network_values.proofs.Words.{end_deficits, exchangers_of, fold-int_max_reached, hot_target, mix_loss, not_negative-minus, not_negative-plus, plus}
use Rattle.network_values.proofs.Words.{positive-is, rational_zero, share_in, shifted_run, stream_at, stream_ends, stream_within, subst₂, used_there, uses}
use Rattle.network_values.proofs.Words.{value_at, whole}
use Rattle.fractions.proofs.RationalSums.{not_negative-enumerated, not_negative-rational_sum_by}
use Rattle.network_values.proofs.CourseLemmas.{height_on-mixed}
use Rattle.network_values.proofs.PenaltyLemmas.{penalties_sum}
use Rattle.network_values.proofs.ScaleLemmas.{branch_height, run_on_scale}
use Rattle.network_values.proofs.ShareLemmas.{hot_shares_lead, shares_parts}
use Rattle.network_values.proofs.WholeLemmas.{all_solved, branch_above, item_at}
use Rattle.network_values.specs.Penalties.{DeficitsAreMet, HasNoNegativePenalty, PenaltiesAreNotNegative, TargetsAreMet, absorbed_heat, course_of}
use Rattle.network_values.specs.Penalties.{exchanger_penalties, height_at, hot_duty, hot_heat, mix_penalties, penalty, released_heat, utility_part}
use Rattle.std.proofs.Common.{All, Bool, Some, ap₂, arith, false, get_or, length, pos, refl, slice_get, subst, sym, true, ℕ, ℤ, ⊎_elim, ◌<◌, ◌≡◌}
use Rattle.networks.specs.declared.network.Line.TheVariants as line
use Rattle.stream_case.specs.declared.source.Side.TheVariants as side
use Rattle.stream_case.specs.declared.source.Source.TheVariants as source

module _ (case : Case) (network : Network) (values : Valuation) (view : View) (shape : HasShape case network)
    (whole_values : IsWholeValuation case network values) where
  abbrev height : ℕ → Rational
  height = height_at case view network values

  -- what is released is at least the hot share, and what is absorbed at most the cold one
  released-least : (number : ℕ) (e : Exchanger) (s : Source)
      → RunsOnOneScale case network values number (record e { hot = s })
      → IsAtMost (share_in view e.duty (shifted_run side.Hot case network values number s)) (released_heat height network number e.duty s)
  released-least number e (source.Stream i) runs = at_most_from_same _ _ (sym (runs.released view i refl))
  released-least number e (source.Utility i) runs = (shares_parts view.from_itself (whole view.place) e.duty
      (shifted_run side.Hot case network values number (source.Utility i)) runs.positive runs.hot_duty).most

  absorbed-most : (number : ℕ) (e : Exchanger) (s : Source)
      → RunsOnOneScale case network values number (record e { cold = s })
      → IsAtMost (absorbed_heat height network number s) (share_in view e.duty (shifted_run side.Cold case network values number s))
  absorbed-most number e (source.Stream i) runs = at_most_from_same _ _ (runs.absorbed view i refl)
  absorbed-most number e (source.Utility i) runs = (shares_parts view.from_itself (whole view.place) e.duty
      (shifted_run side.Cold case network values number (source.Utility i)) runs.positive runs.cold_duty).least

  exchanger_sign : (number : ℕ) (e : Exchanger) → slice_get (exchangers_of network.lines) number ≡ Some e
      → KeepsApproach case network values number e
      → IsAtMost rational_zero (penalty height network (number, e))
  exchanger_sign number e at apart = let runs = run_on_scale shape whole_values number e at in
      let shares = hot_shares_lead view.from_itself (whole view.place) e.duty _ _ runs.positive runs.hot_duty runs.cold_duty (runs.apart apart) in
      not_negative-minus _ _ (at_most_trans _ _ _ (absorbed-most number e e.cold runs) (at_most_trans _ _ _ shares (released-least number e e.hot runs)))

  mix_sign : (l : Line) → All (λ b. b < length network.branches) (uses l) → IsOfOneStream network.branches l
      → Solves case network values l
      → IsAtMost rational_zero (mix_loss height l)
  mix_sign (line.Mix first second to) within one solves =
      let first_within = within 0 0 (omega arith) in
      let second_within = within 1 0 (omega arith) in
      let i = stream_at network.branches first in
      let (s, at) = item_at case.streams i (stream_within shape first first_within) in
      let mixed = height_on-mixed view.from_itself (course_of view.place s) (value_at values first) (value_at values second) (value_at values to)
      (branch_above whole_values shape first first_within) (branch_above whole_values shape second second_within) solves in
      not_negative-minus (height to) (plus (height first) (height second)) (subst₂ IsAtMost (sym (branch_height shape whole_values view i s to at one.1))
      (sym (ap₂ plus (branch_height shape whole_values view i s first at refl) (branch_height shape whole_values view i s second at one.0))) mixed)
  mix_sign l within one solves = at_most_refl rational_zero

  pub no_negative : KeepApproaches case network values → HasNoNegativePenalty case view network values
  no_negative apart = record {
    exchangers = λ number e at. exchanger_sign number e at (apart number e at);
    mixes =
        λ k d within. mix_sign (get_or network.lines k d) (used_there shape.made_once shape.made_first k d within) (shape.one_stream k d within)
        (all_solved whole_values k d within);
  }

  -- so the sum of all penalties is not negative
  pub sum_sign : KeepApproaches case network values
      → IsAtMost rational_zero (plus (exchanger_penalties case view network values) (mix_penalties case view network values))
  sum_sign apart = let none = no_negative apart in
      not_negative-plus (exchanger_penalties case view network values) (mix_penalties case view network values)
      (not_negative-enumerated (penalty height network) (exchangers_of network.lines) none.exchangers)
      (not_negative-rational_sum_by (mix_loss height) network.lines none.mixes)

pub penalties_sign : PenaltiesAreNotNegative
penalties_sign case network values view shape whole_values apart =
    no_negative case network values view shape whole_values apart

pub deficits_met : DeficitsAreMet
deficits_met case network values view streams shape whole_values ended apart =
    at_most_from_not_negative (whole (deficit_over view.from_itself case.streams view.place)) (hot_heat network) (subst (IsAtMost rational_zero)
    (penalties_sum case network values view streams shape whole_values ended) (sum_sign case network values view shape whole_values apart))

-- ---- the targets

utility_part-least : (duty : Rational) → IsBelow rational_zero duty → (s : Source)
    → IsAtMost rational_zero (utility_part duty s)
utility_part-least duty positive s = grind (arith, at_most_refl, at_most_from_below rational_zero duty positive)

hot_heat-least : (case : Case) (network : Network) → HasShape case network → IsAtMost rational_zero (hot_heat network)
hot_heat-least case network shape = not_negative-rational_sum_by hot_duty (exchangers_of network.lines) (λ k d within.
    let e = get_or (exchangers_of network.lines) k d in
    utility_part-least e.duty (positive-is e.duty (shape.exchangers.each k d within).duty.above) e.hot)

-- the hot target is 0, or one of both deficits at some end
pub targets_met : TargetsAreMet
targets_met case network values valid shape whole_values ended apart =
    let streams = case.streams in
    let ends = stream_ends streams in
    let IsMet = λ (d : ℤ). IsAtMost (whole d) (hot_heat network) in
    let met : (from_itself : Bool) (t : ℤ) → IsMet (deficit_over from_itself streams t)
    = λ from_itself t. deficits_met case network values
    (record { place = t; from_itself = from_itself }) valid shape whole_values ended apart in
    let all_met = λ (from_itself : Bool). All-map IsMet (deficit_over from_itself streams) ends (λ k d within. met from_itself (get_or ends k d)) in
    let each : All IsMet (end_deficits streams) = All-append IsMet _ _ (all_met false) (all_met true) in
    not_negative-minus (whole (hot_target streams)) (hot_heat network) (⊎_elim (λ none. subst IsMet (sym none) (hot_heat-least case network shape))
    (λ (k, within, is). subst IsMet is (each k (hot_target streams) within)) (fold-int_max_reached (pos 0) (end_deficits streams) (hot_target streams) refl))
