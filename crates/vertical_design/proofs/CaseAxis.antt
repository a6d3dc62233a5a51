-- The heat axis of a standard case without latent streams, and its cuts: what runs between two neighbouring ones.
use Rattle.vertical_design.proofs.Words.{All-weaker, AreBands, AreCuts, AreSensibleStreams, AreSensibleStreams-case, Case, Contains}
use Rattle.vertical_design.proofs.Words.{Contains-append_left, Contains-append_right, Contains-flat_map, Contains-slice_get, IsSensibleCase}
use Rattle.vertical_design.proofs.Words.{Band, IsStandard, Side, Stream, Utility, begin_of, ends_of, false_from_ne_true, heat_at, high_end, int_le}
use Rattle.vertical_design.proofs.Words.{int_le-from, int_sum_by, ints, low_end, lower_cut, same_side, same_side-true, side_flow, slice_get-get_or}
use Rattle.vertical_design.proofs.Words.{bands_of, standard_utility, sum_side-zero, upper_cut, utility_from, utility_to, ◌&&◌}
use Rattle.std.proofs.Common.{All, Bool, List, [], ap, ap₂, arith, get_or, if◌then◌else◌, inl, inr, length, pos, refl, subst, sym, true, ℕ, ℤ, ⊎_elim}
use Rattle.std.proofs.Common.{◌+ℤ◌, ◌+◌, ◌-◌, ◌<ℤ◌, ◌<◌, ◌∙◌, ◌∷◌, ◌≡◌, ◌≤ℤ◌}
use Rattle.stream_case.proofs.StandardUtilities.{in_order, some_utility, standard_side}
use Rattle.vertical_design.proofs.CurveLemmas.{end_of, on_curve}
use Rattle.vertical_design.proofs.CurveOrder.{IsOutside}
use Rattle.vertical_design.proofs.StraightCurves.{HasNoEnd, flow_positive, flow_running, gap_segment, running_flow}
use Rattle.vertical_design.proofs.AxisLemmas.{is_axis, IsOnAxis, curve_on_axis, utility_on_axis, curve_or_utility}
use Rattle.vertical_design.proofs.BandSources.{band_of, utility_band_of, IsSourceBand, HasBand, cuts_hold, band_sources, stream_place, utility_place}
use Rattle.vertical_design.proofs.BandLimits.{AreBands-bands_of}
use Rattle.vertical_design.proofs.CutNeighbours.{none_between, reaches, utility_across, utilities_flow, side_flow-parts}
use Rattle.stream_case.specs.declared.source.Side.TheVariants as side

-- the heat axis of a standard case without latent streams, and its cuts
pub record Axis : Type 0 where
  pub case : Case
  pub cuts : List ℤ
  pub complete : IsSensibleCase case
  pub standard : IsStandard case
  pub are_cuts : AreCuts (bands_of side.Hot case) (bands_of side.Cold case) cuts

abbrev total_on : Side → ℤ → List Utility → ℤ
total_on of x us = int_sum_by (λ (u : Utility). if same_side u.side of then x else pos 0) us

module _ (axis : Axis) where
  abbrev pub streams_are : AreSensibleStreams axis.case.streams
  streams_are = AreSensibleStreams-case axis.case axis.complete

  pub bands_are : (of : Side) → AreBands (bands_of of axis.case)
  bands_are of = AreBands-bands_of of axis.case axis.complete axis.standard

  -- the cuts of an interval, and the flow of a side there
  abbrev pub low_at : ℕ → ℤ
  low_at number = lower_cut axis.cuts number

  abbrev pub high_at : ℕ → ℤ
  high_at number = upper_cut axis.cuts number

  abbrev pub flow_at : Side → ℕ → ℤ
  flow_at of number = side_flow (low_at number) (high_at number) (bands_of of axis.case)

  -- each band begins and ends at a cut
  band_cuts : (of : Side) (a : Band) → HasBand (bands_of of axis.case) a
      → Contains axis.cuts a.from × Contains axis.cuts a.to
  band_cuts of a (k, there) =
      let ends : Band → List ℤ = λ b. b.from ∷ b.to ∷ [] in
      let member = Contains-slice_get (bands_of of axis.case) k a there in
      let cut = λ (x : ℤ) (own : Contains (ends a) x). is_cut of x
      (Contains-flat_map ends (bands_of of axis.case) a x member own) in
      (cut a.from (0, omega arith, refl), cut a.to (1, omega arith, refl))
    where
      is_cut : (d : Side) (x : ℤ) → Contains (ends_of (bands_of d axis.case)) x → Contains axis.cuts x
      is_cut side.Hot x own =
          let in_ends =
          Contains-append_left (ends_of (bands_of side.Hot axis.case)) (ends_of (bands_of side.Cold axis.case)) x own in
          axis.are_cuts.every x in_ends
      is_cut side.Cold x own =
          let in_ends = Contains-append_right (ends_of (bands_of side.Hot axis.case))
          (ends_of (bands_of side.Cold axis.case)) x own in
          axis.are_cuts.every x in_ends

  -- so the ends of each stream are cuts, and those of the utility of a side
  pub ends_are_cuts : (of : Side)
      → All (λ s.
      same_side s.side of ≡ true
      → Contains axis.cuts (heat_at of axis.case.streams (low_end s))
      × Contains axis.cuts (heat_at of axis.case.streams (high_end s)))
      axis.case.streams
  ends_are_cuts of k o inside own =
      let s = get_or axis.case.streams k o in band_cuts of (band_of of axis.case.streams k s)
      (stream_place axis.case of k s (slice_get-get_or axis.case.streams k o inside) (same_side-true s.side of own))

  pub utility_cuts : (of : Side)
      → Contains axis.cuts (utility_from of axis.case.streams) × Contains axis.cuts (utility_to of axis.case.streams)
  utility_cuts of =
      let (number, here) = some_utility axis.case axis.standard of in
      band_cuts of (utility_band_of of axis.case.streams number)
      (utility_place axis.case of number (standard_utility of axis.case) here (standard_side of axis.case))

  -- all cuts lie on the axis
  cuts_on_axis : All (IsOnAxis axis.case.streams) axis.cuts
  cuts_on_axis =
      cuts_hold (bands_of side.Hot axis.case) (bands_of side.Cold axis.case) axis.cuts axis.are_cuts
      (IsOnAxis axis.case.streams) (ends side.Hot) (ends side.Cold)
    where
      by : (of : Side) (a : Band) → IsSourceBand axis.case of a
          → IsOnAxis axis.case.streams a.from × IsOnAxis axis.case.streams a.to
      by of a (inl (n, s, own)) =
          rw own.is (
            curve_on_axis of axis.case.streams (low_end s) streams_are,
            curve_on_axis of axis.case.streams (high_end s) streams_are,
          )
      by of a (inr (n, u, own)) =
          rw own.is (utility_on_axis of axis.case.streams (is_axis axis.case.streams streams_are))

      ends : (of : Side)
          → All (λ a. IsOnAxis axis.case.streams a.from × IsOnAxis axis.case.streams a.to) (bands_of of axis.case)
      ends of =
          All-weaker (IsSourceBand axis.case of)
          (λ a. IsOnAxis axis.case.streams a.from × IsOnAxis axis.case.streams a.to) (by of) (bands_of of axis.case)
          (band_sources axis.case of)

  -- ---- flows

  one_utility : (low high : ℤ) (of : Side) (across : Bool)
      → utilities_flow axis.case low high of across ≡ (if across then pos 1 else pos 0)
  one_utility low high of across = by of (if across then pos 1 else pos 0)
    where
      by : (d : Side) (x : ℤ) → total_on d x axis.case.utilities ≡ x
      by side.Hot x =
          in_order axis.case axis.standard (λ us. total_on side.Hot x us ≡ x) (omega (arith, ints))
          (omega (arith, ints))
      by side.Cold x =
          in_order axis.case axis.standard (λ us. total_on side.Cold x us ≡ x) (omega (arith, ints))
          (omega (arith, ints))

  -- between neighbouring cuts streams run, or the utility does
  module _ (number : ℕ) (within : number < length axis.cuts - 1) where
    abbrev low : ℤ
    low = low_at number

    abbrev high : ℤ
    high = high_at number

    pub cut_below : low_at number <ℤ high_at number
    cut_below = axis.are_cuts.ordered number (number + 1) (pos 0) (omega arith) (omega (arith, within))

    -- no stream begins or ends between them
    pub no_end_between : (of : Side)
        → All (λ s. same_side s.side of ≡ true → HasNoEnd of axis.case.streams streams_are low high s) axis.case.streams
    no_end_between of k o inside own =
        let ends = ends_are_cuts of k o inside own in
        let outside = none_between axis.cuts axis.are_cuts.ordered number within in
        record { low_outside = outside _ ends.0; high_outside = outside _ ends.1 }

    -- nor does a utility
    pub utility_outside : (of : Side)
        → IsOutside low high (utility_from of axis.case.streams) × IsOutside low high (utility_to of axis.case.streams)
    utility_outside of =
        let ends = utility_cuts of in
        let outside = none_between axis.cuts axis.are_cuts.ordered number within in
        (outside (utility_from of axis.case.streams) ends.0, outside (utility_to of axis.case.streams) ends.1)

    -- where the curve of a side lies, its flow is that of its streams that run
    pub side_flow-curve : (of : Side) → begin_of of axis.case.streams ≤ℤ low → high ≤ℤ end_of of axis.case.streams
        → flow_at of number ≡ flow_running of axis.case.streams streams_are low high
    side_flow-curve of begins ends =
        let across = utility_across axis.case low high of in
        let rests = false_from_ne_true across (λ holds.
        let both = reaches (utility_from of axis.case.streams) (utility_to of axis.case.streams) low high holds in
        curve_or_utility of axis.case.streams low high cut_below begins ends both.0 both.1) in side_flow-parts axis.case
        low high of streams_are
        ∙ alone (flow_running of axis.case.streams streams_are low high)
        (one_utility low high of across ∙ ap (λ b. if b then pos 1 else pos 0) rests)
      where
        alone : (x : ℤ) {y : ℤ} → y ≡ pos 0 → x +ℤ y ≡ x
        alone x none = omega (arith, ints)

    -- where the utility lies no stream of its side runs, so the flow of the side is that of the utility
    pub utility_alone : (of : Side) → utility_from of axis.case.streams ≤ℤ low
        → high ≤ℤ utility_to of axis.case.streams → flow_at of number ≡ pos 1
    utility_alone of from upto =
        let across = utility_across axis.case low high of in
        let is : across ≡ true =
        ap₂ ◌&&◌ (int_le-from (utility_from of axis.case.streams) low from)
        (int_le-from high (utility_to of axis.case.streams) upto) in
        let none = sum_side-zero of (running_flow of axis.case.streams streams_are low high) axis.case.streams
        (λ k o inside. rests (get_or axis.case.streams k o)) in
        side_flow-parts axis.case low high of streams_are
        ∙ ap₂ ◌+ℤ◌ none (one_utility low high of across ∙ ap (λ b. if b then pos 1 else pos 0) is)
      where
        rests : (s : Stream) → running_flow of axis.case.streams streams_are low high s ≡ pos 0
        rests s =
            let begin = heat_at of axis.case.streams (low_end s) in
            let end = heat_at of axis.case.streams (high_end s) in
            ap (λ b. if b then s.cp else pos 0) (false_from_ne_true (int_le begin low && int_le high end) (λ holds.
            let both = reaches begin end low high holds in
            let first = on_curve of axis.case.streams streams_are (low_end s) in
            let last = on_curve of axis.case.streams streams_are (high_end s) in
            curve_or_utility of axis.case.streams low high cut_below (omega (arith, ints, first.from, both.0))
            (omega (arith, ints, last.upto, both.1)) from upto))

    streams_flow : (of : Side) → begin_of of axis.case.streams ≤ℤ low → high ≤ℤ end_of of axis.case.streams
        → pos 0 <ℤ flow_at of number
    streams_flow of from upto =
        let (begin, end, is) = gap_segment of axis.case.streams streams_are low high cut_below from upto in
        subst (λ f. pos 0 <ℤ f) (sym (side_flow-curve of from upto))
        (flow_positive of axis.case.streams streams_are low high cut_below begin end is (no_end_between of))

    utility_flow : (of : Side) → utility_from of axis.case.streams ≤ℤ low
        → high ≤ℤ utility_to of axis.case.streams → pos 0 <ℤ flow_at of number
    utility_flow of from upto = let alone = utility_alone of from upto in omega (arith, ints, alone)

    pub flow_above : (of : Side) → pos 0 <ℤ flow_at of number
    flow_above of =
        let low_on_axis = cuts_on_axis (number + 1) (pos 0) (omega (arith, within)) in
        let high_on_axis = cuts_on_axis number (pos 0) (omega (arith, within)) in
        by of (utility_outside of) low_on_axis high_on_axis
      where
        by : (d : Side)
            → IsOutside low high (utility_from d axis.case.streams)
            × IsOutside low high (utility_to d axis.case.streams)
            → IsOnAxis axis.case.streams low → IsOnAxis axis.case.streams high → pos 0 <ℤ flow_at d number
        by side.Hot outside least most =
            ⊎_elim (λ under. utility_flow side.Hot under most.upto) (λ beyond.
            streams_flow side.Hot least.from (omega (arith, ints, beyond))) outside.0
        by side.Cold outside least most =
            let end = (is_axis axis.case.streams streams_are).cold_end in
            ⊎_elim (λ under. streams_flow side.Cold under (omega (arith, ints, most.upto, end))) (λ beyond.
            utility_flow side.Cold least.from beyond) outside.1
