-- The intervals between neighbouring cuts of the heat axis: the temperatures of both sides there, and their pieces.
use Rattle.vertical_design.proofs.Words.{AreSensibleStreams, Band, IsAtUtility, IsGap, IsSensible, Piece, Rational, Side, Stream, at_most-whole}
use Rattle.vertical_design.proofs.Words.{begin_of, cases_lt, contribution_of, curve_heat, first_end, first_state, first_state-unshifted, flat_map}
use Rattle.vertical_design.proofs.Words.{high_end, int_lt_cases, intervals_of, ints, last_end, last_state, last_state-unshifted, length-map, low_end}
use Rattle.vertical_design.proofs.Words.{map-map, minus, minus-plus, on_scale, option_map, plus, plus-minus, rational_zero, slice_get-map}
use Rattle.vertical_design.proofs.Words.{bands_of, sources_between, sources_in, sources_of, unshifted, utility_from, utility_to, whole, whole-minus}
use Rattle.vertical_design.proofs.Words.{whole-plus}
use Rattle.std.proofs.Common.{List, Some, ap, arith, inl, inr, length, map, refl, slice_get, subst, sym, ℕ, ℤ, ◌*◌, ◌+◌, ◌-◌, ◌<ℤ◌, ◌<◌, ◌∙◌, ◌≡◌}
use Rattle.std.proofs.Common.{◌≤ℤ◌, ◌≤◌, ◌⊎◌}
use Rattle.vertical_design.proofs.StraightCurves.{Runs, gap_segment}
use Rattle.vertical_design.proofs.CurveLemmas.{end_of, on_curve}
use Rattle.vertical_design.proofs.FlowLimits.{gap_at}
use Rattle.vertical_design.proofs.RowLists.{map-rows, row_place, same-rows}
use Rattle.vertical_design.proofs.CaseAxis.{Axis, bands_are, cut_below, flow_at, high_at, low_at, no_end_between, side_flow-curve, streams_are}
use Rattle.vertical_design.proofs.FacingPieces.{IsWithinRange}
use Rattle.vertical_design.proofs.SideScales.{IsScale, segment_scale}
use Rattle.stream_case.specs.declared.source.Side.TheVariants as side
use Rattle.stream_case.specs.declared.source.Source.TheVariants as source

-- the temperature of a source with this contribution that has this place on the shifted scale
abbrev pub actual_at : Side → Rational → ℤ → Rational
actual_at side.Hot t contribution = plus t (whole contribution)
actual_at side.Cold t contribution = minus t (whole contribution)

pub on_scale-actual : (of : Side) (t : Rational) (contribution : ℤ)
    → on_scale of (actual_at of t contribution) contribution ≡ t
on_scale-actual side.Hot t contribution = minus-plus t (whole contribution)
on_scale-actual side.Cold t contribution = plus-minus t (whole contribution)

actual_at-whole : (of : Side) (place contribution : ℤ)
    → actual_at of (whole place) contribution ≡ whole (unshifted of place contribution)
actual_at-whole side.Hot place contribution = whole-plus place contribution
actual_at-whole side.Cold place contribution = whole-minus place contribution

-- a sensible stream begins and ends its way at the ends of its shifted range
pub actual-first : (s : Stream) → IsSensible s
    → actual_at s.side (whole (first_end s.side s)) s.contribution ≡ first_state s
actual-first s h = actual_at-whole s.side (first_end s.side s) s.contribution ∙ first_state-unshifted s.side s h refl

pub actual-last : (s : Stream) → IsSensible s
    → actual_at s.side (whole (last_end s.side s)) s.contribution ≡ last_state s
actual-last s h = actual_at-whole s.side (last_end s.side s) s.contribution ∙ last_state-unshifted s.side s h refl

-- ---- both sides at one heat

module _ (streams : List Stream) (are : AreSensibleStreams streams) (low high : ℤ) where
  -- two streams
  pub scales_face : (hot_flow cold_flow : ℤ) (hot cold : ℤ → Rational)
      → IsScale side.Hot streams are low high hot_flow hot
      → IsScale side.Cold streams are low high cold_flow cold → (q : ℤ) → low ≤ℤ q → q ≤ℤ high
      → curve_heat side.Hot streams (hot q) ≡ curve_heat side.Cold streams (cold q)
  scales_face hot_flow cold_flow hot cold of_hot of_cold q from upto =
      of_hot.heat q from upto ∙ sym (of_cold.heat q from upto)

  -- a stream of a side, where the utility of the other side lies
  pub scale_at_utility : (of other : Side) (flow : ℤ) (scale : ℤ → Rational)
      → IsScale of streams are low high flow scale → utility_from other streams ≤ℤ low
      → high ≤ℤ utility_to other streams → (q : ℤ) → low ≤ℤ q → q ≤ℤ high
      → IsAtUtility other streams (curve_heat of streams (scale q))
  scale_at_utility of other flow scale is begin end q from upto =
      subst (IsAtUtility other streams) (sym (is.heat q from upto)) (record {
        from = at_most-whole (utility_from other streams) q (omega (arith, ints, begin, from));
        upto = at_most-whole q (utility_to other streams) (omega (arith, ints, upto, end));
      })

  -- and each stream that runs is within its range from the one cut to the other
  pub scale_within : (of : Side) (flow : ℤ) (scale : ℤ → Rational) (r : Stream)
      → IsScale of streams are low high flow scale → low <ℤ high
      → Runs of streams are low high r → IsWithinRange r (scale low) (scale high)
  scale_within of flow scale r is gap runs = record {
    from = (is.range low (omega (arith, ints)) (omega (arith, ints, gap)) r runs).0;
    rises = is.rises low high gap;
    upto = (is.range high (omega (arith, ints, gap)) (omega (arith, ints)) r runs).1;
  }

module _ (axis : Axis) where
  pub gap_in : (number : ℕ) → number < length axis.cuts - 1 → IsGap (low_at axis number) (high_at axis number)
  gap_in =
      gap_at (bands_of side.Hot axis.case) (bands_of side.Cold axis.case) axis.cuts (bands_are axis side.Hot)
      (bands_are axis side.Cold) axis.are_cuts

  -- ---- the temperatures of a side

  -- a stream runs in an interval
  abbrev pub RunsIn : Side → ℕ → Stream → Type 0
  RunsIn of number r = Runs of axis.case.streams (streams_are axis) (low_at axis number) (high_at axis number) r

  abbrev pub IsScaleIn : Side → ℕ → (ℤ → Rational) → Type 0
  IsScaleIn of number scale =
      IsScale of axis.case.streams (streams_are axis) (low_at axis number) (high_at axis number)
      (flow_at axis of number) scale

  -- numbers that are the temperatures of the side, if a stream of it runs
  abbrev SideScale : Side → ℕ → Type 0
  SideScale of number = (scale : ℤ → Rational) × ((r : Stream) → RunsIn of number r → IsScaleIn of number scale)

  none_runs : (of : Side) (number : ℕ) → ((r : Stream) → RunsIn of number r → ⊥) → SideScale of number
  none_runs of number rests = (λ q. rational_zero, λ r runs. absurd (rests r runs))

  side_scale : (of : Side) (number : ℕ) → number < length axis.cuts - 1 → SideScale of number
  side_scale of number within =
      let from_begin = int_lt_cases (low_at axis number) (begin_of of axis.case.streams) in
      let upto_end = int_lt_cases (end_of of axis.case.streams) (high_at axis number) in
      by from_begin upto_end
    where
      by : (low_at axis number <ℤ begin_of of axis.case.streams) ⊎ (begin_of of axis.case.streams ≤ℤ low_at axis number)
          → (end_of of axis.case.streams <ℤ high_at axis number) ⊎ (high_at axis number ≤ℤ end_of of axis.case.streams)
          → SideScale of number
      by (inl early) any =
          none_runs of number (λ r runs.
          omega (arith, ints, early, runs.from, (on_curve of axis.case.streams (streams_are axis) (low_end r)).from))
      by (inr from) (inl late) =
          none_runs of number (λ r runs.
          omega (arith, ints, late, runs.upto, (on_curve of axis.case.streams (streams_are axis) (high_end r)).upto))
      by (inr from) (inr upto) =
          let gap = cut_below axis number within in
          let (begin, end, is) = gap_segment of axis.case.streams (streams_are axis) (low_at axis number)
          (high_at axis number) gap from upto in
          let no_end = no_end_between axis number within of in
          let scale = segment_scale of axis.case.streams (streams_are axis) (low_at axis number) (high_at axis number)
          gap begin end is no_end in
          let same_flow = side_flow-curve axis number within of from upto in
          let is =
          subst (λ f.
          IsScale of axis.case.streams (streams_are axis) (low_at axis number) (high_at axis number) f scale.0)
          (sym same_flow) scale.1 in
          (scale.0, λ r runs. is)

  scale_by : (of : Side) (number : ℕ) → (number < length axis.cuts - 1) ⊎ (length axis.cuts - 1 ≤ number) → ℤ → Rational
  scale_by of number (inl within) = (side_scale of number within).0
  scale_by of number (inr past) = λ q. rational_zero

  -- at each heat of an interval
  pub scale_at : Side → ℕ → ℤ → Rational
  scale_at of number = scale_by of number (cases_lt number (length axis.cuts - 1))

  pub scale_is : (of : Side) (number : ℕ) → number < length axis.cuts - 1 → (r : Stream) → RunsIn of number r
      → IsScaleIn of number (scale_at of number)
  unfolding scale_at scale_by
  scale_is of number within r runs = by (cases_lt number (length axis.cuts - 1))
    where
      by : (is : (number < length axis.cuts - 1) ⊎ (length axis.cuts - 1 ≤ number))
          → IsScaleIn of number (scale_by of number is)
      by (inl here) = (side_scale of number here).1 r runs
      by (inr past) = absurd (omega (arith, within, past))

  -- ---- pieces

  -- at which cut a source of a side comes into an interval, and at which one it leaves
  abbrev pub entered_at : Side → ℕ → ℤ
  entered_at side.Hot number = high_at axis number
  entered_at side.Cold number = low_at axis number

  abbrev pub left_at : Side → ℕ → ℤ
  left_at side.Hot number = low_at axis number
  left_at side.Cold number = high_at axis number

  abbrev pub state_at : Side → ℕ → ℤ → Band → Rational
  state_at of number heat a = actual_at of (scale_at of number heat) (contribution_of axis.case a.source)

  abbrev pub piece_in : Side → ℕ → Band → Piece
  piece_in of number a =
      record {
        source = a.source;
        before = state_at of number (entered_at of number) a;
        after = state_at of number (left_at of number) a;
      }

  abbrev pub pieces_at : Side → ℕ → List Piece
  pieces_at of number = map (piece_in of number) (bands_of of axis.case)

  unfoldable pub pieces : Side → List Piece
  pieces of = flat_map (pieces_at of) (intervals_of axis.cuts)

  pub sources_are : (of : Side) → sources_of (pieces of) ≡ sources_between (bands_of of axis.case) axis.cuts
  unfolding pieces
  sources_are of =
      map-rows (λ (p : Piece). p.source) (pieces_at of) (intervals_of axis.cuts)
      ∙ same-rows (λ n. sources_of (pieces_at of n)) (λ n. sources_in (bands_of of axis.case))
      (λ n. map-map (λ (p : Piece). p.source) (piece_in of n) (bands_of of axis.case)) (intervals_of axis.cuts)

  pub piece_there : (of : Side) (number index : ℕ) (a : Band) → number < length axis.cuts - 1
      → slice_get (bands_of of axis.case) index ≡ Some a
      → slice_get (pieces of) (number * length (bands_of of axis.case) + index) ≡ Some (piece_in of number a)
  unfolding pieces
  piece_there of number index a within there =
      let piece_is =
      slice_get-map (piece_in of number) (bands_of of axis.case) index ∙ ap (option_map (piece_in of number)) there in
      row_place (pieces_at of) (length (bands_of of axis.case))
      (λ n. length-map (bands_of of axis.case) (piece_in of n)) (length axis.cuts - 1) number index
      (piece_in of number a) within piece_is
