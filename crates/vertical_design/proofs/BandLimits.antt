-- The bands of a standard case are within the limits.
use Rattle.vertical_design.proofs.Words.{ALL_SENSIBLE_HEAT, All-slice_get, All-weaker, AreBands, AreSensibleStreams, AreSensibleStreams-case, Case}
use Rattle.vertical_design.proofs.Words.{IsBand, IsBetween, IsPlace, IsSensibleCase, IsSensibleHeat, IsSensibleStream, IsSensiblesHeat, IsStandard}
use Rattle.vertical_design.proofs.Words.{Band, MOST_STREAMS, Side, Stream, count_by, each_side, heat-between, heat_of, heat_of-sensible, high_end}
use Rattle.vertical_design.proofs.Words.{hot_target-within, int_sum_by, int_sum_by-add, int_sum_by-at_most, int_sum_by-same, ints, length-AreStreams}
use Rattle.vertical_design.proofs.Words.{bands_of, length-append, low_end, range-length, same_side, sum_side, utility_from, utility_to}
use Rattle.std.proofs.Common.{All, List, arith, get_or, if◌then◌else◌, inl, inr, length, pos, refl, subst, sym, ℕ, ℤ, ◌*◌, ◌+ℤ◌, ◌-ℤ◌, ◌∙◌, ◌≡◌, ◌≤ℤ◌}
use Rattle.std.proofs.Common.{◌≤◌}
use Rattle.stream_case.proofs.StandardUtilities.{in_order}
use Rattle.vertical_design.proofs.FacingCurves.{bounded}
use Rattle.vertical_design.proofs.AxisLemmas.{IsOnAxis, curve_on_axis, is_axis, utility_on_axis, utility_order}
use Rattle.vertical_design.proofs.BandSources.{IsSourceBand, kept_count, own_stream, own_utility, stream_bands, stream_item, utility_item}
use Rattle.vertical_design.proofs.BandSources.{band_sources, bands-parts, utility_bands}
use Rattle.stream_case.specs.declared.source.Side.TheVariants as side

both_sides : (f : Stream → ℤ) (streams : List Stream)
    → sum_side side.Hot f streams +ℤ sum_side side.Cold f streams ≡ int_sum_by f streams
both_sides f streams =
    let on = λ (of : Side) (s : Stream). if same_side s.side of then f s else pos 0 in
    let added = int_sum_by-add (on side.Hot) (on side.Cold) streams in
    sym added
    ∙ int_sum_by-same (λ s. on side.Hot s +ℤ on side.Cold s) f streams (λ k o within.
    by (get_or streams k o).side (f (get_or streams k o)))
  where
    by : (d : Side) (x : ℤ)
        → (if same_side d side.Hot then x else pos 0) +ℤ (if same_side d side.Cold then x else pos 0) ≡ x
    by side.Hot x = omega (arith, ints)
    by side.Cold x = omega (arith, ints)

all_within : {m : ℕ} (streams : List Stream)
    → ((s : Stream) → IsSensibleStream s → IsBetween (pos 0) (pos m) (heat_of s)) → All IsSensibleStream streams
    → int_sum_by heat_of streams ≤ℤ pos (length streams * m)
all_within {m} streams bounded valid =
    let each_upto = All-weaker IsSensibleStream (λ s. heat_of s ≤ℤ pos m) (λ s h. (bounded s h).upto) streams valid in
    int_sum_by-at_most heat_of m streams each_upto

heat-within : (s : Stream) → IsSensibleStream s → IsSensibleHeat (heat_of s)
heat-within s h =
    let heat = heat-between s (high_end s -ℤ low_end s) h.valid (range-length s h.valid) in
    subst IsSensibleHeat (sym (heat_of-sensible s h.sensible)) heat

-- the axis ends where all heat of both sides does, or below
axis_end : (streams : List Stream) → AreSensibleStreams streams → utility_to side.Hot streams ≤ℤ ALL_SENSIBLE_HEAT
axis_end streams are =
    let target = (hot_target-within streams are.are).upto in
    omega (
      arith,
      ints,
      all_within streams heat-within are.each,
      length-AreStreams streams are.are,
      target,
      both_sides heat_of streams,
    )

on_axis-place : (streams : List Stream) (x : ℤ) → AreSensibleStreams streams → IsOnAxis streams x → IsPlace x
on_axis-place streams x are on = record { from = on.from; upto = omega (arith, ints, on.upto, axis_end streams are) }

-- so the utility of a side covers no more than that
pub target-within : (of : Side) (streams : List Stream) → AreSensibleStreams streams
    → IsSensiblesHeat (utility_to of streams -ℤ utility_from of streams)
target-within of streams are =
    let ends = utility_on_axis of streams (is_axis streams are) in
    let order = utility_order of streams (is_axis streams are) in
    record {
      from = omega (arith, ints, order);
      upto = omega (arith, ints, ends.0.from, ends.1.upto, axis_end streams are);
    }

-- ---- the bands

module _ (of : Side) (case : Case) (complete : IsSensibleCase case) where
  are_streams : AreSensibleStreams case.streams
  are_streams = AreSensibleStreams-case case complete

  is_band : (a : Band) → IsSourceBand case of a → IsBand a
  is_band a (inl (n, s, own)) =
      let cp = (All-slice_get IsSensibleStream case.streams n s are_streams.each own.here).sensible.cp in
      let place = λ (t : ℤ). on_axis-place case.streams _ are_streams (curve_on_axis of case.streams t are_streams) in
      rw own.is (record {
        flow = record { from = omega (arith, ints, cp.from); upto = cp.upto };
        from = place (low_end s);
        to = place (high_end s);
      })
  is_band a (inr (n, u, own)) =
      let ends = utility_on_axis of case.streams (is_axis case.streams are_streams) in
      rw own.is (record {
        flow = record { from = omega (arith, ints); upto = omega (arith, ints) };
        from = on_axis-place case.streams _ are_streams ends.0;
        to = on_axis-place case.streams _ are_streams ends.1;
      })

  pub AreBands-bands_of : IsStandard case → AreBands (bands_of of case)
  AreBands-bands_of standard = record {
    each = All-weaker (IsSourceBand case of) IsBand is_band (bands_of of case) (band_sources case of);
    few =
        let streams = few_streams in
        rw bands-parts
        (omega (arith, length-append (stream_bands case of) (utility_bands case of), streams, few_utilities));
  }
    where
      few_streams : length (stream_bands case of) ≤ MOST_STREAMS
      few_streams =
          omega (arith, kept_count (own_stream case of) (stream_item case of) 0 case.streams, are_streams.are.few of)

      few_utilities : length (utility_bands case of) ≡ 1
      few_utilities =
          kept_count (own_utility case of) (utility_item case of) 0 case.utilities
          ∙ each_side (λ d. count_by (own_utility case d) case.utilities ≡ 1)
          (in_order case standard (λ us. count_by (own_utility case side.Hot) us ≡ 1) refl refl)
          (in_order case standard (λ us. count_by (own_utility case side.Cold) us ≡ 1) refl refl) of
