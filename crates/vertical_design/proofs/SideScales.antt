-- The temperatures of a side between two neighbouring cuts of the heat axis.
use Rattle.vertical_design.proofs.Words.{*ℤ_cancel_right, *ℤ_comm, -ℤ-*ℤ, AreSensibleStreams, IsAtMost, IsBelow, IsOver, Rational, Side, Stream}
use Rattle.vertical_design.proofs.Words.{at_most-ratio_whole, at_most-whole_ratio, below-ratio, curve_heat, heat_at, high_end, ints, low_end, minus}
use Rattle.vertical_design.proofs.Words.{minus-ratio_same_den, pos_above, ratio, ratio-multiple, unsigned_abs, whole}
use Rattle.std.proofs.Common.{List, ap, arith, negsuc, pos, refl, sym, ℕ, ℤ, ◌*ℤ◌, ◌+ℤ◌, ◌-ℤ◌, ◌<ℤ◌, ◌<◌, ◌∙◌, ◌≡◌, ◌≤ℤ◌}
use Rattle.vertical_design.proofs.CurveParts.{curve_heat-ratio, curve_parts, curve_parts-whole, scaled, whole_heat}
use Rattle.vertical_design.proofs.StraightCurves.{HaveNoEnd, IsSegment, Runs, flow_positive, flow_running, line}

-- at whole temperatures the curve is the one of the axis
pub curve_heat-whole : (of : Side) (streams : List Stream) (t : ℤ) → AreSensibleStreams streams
    → curve_heat of streams (whole t) ≡ whole (heat_at of streams t)
curve_heat-whole of streams t are = whole_heat of streams t are.each

pub size_is : (x : ℤ) → pos 0 <ℤ x → x ≡ pos (unsigned_abs x)
size_is (pos n) above = refl
size_is (negsuc n) above = absurd (omega (arith, ints, above))

pub size_above : (x : ℤ) → pos 0 <ℤ x → 0 < unsigned_abs x
size_above x above = omega (arith, ints, above)

-- a temperature in the range of a stream
abbrev pub IsInRange : Stream → Rational → Type 0
IsInRange r t = IsAtMost (whole (low_end r)) t × IsAtMost t (whole (high_end r))

-- the temperature of a side at each heat from the lower cut to the higher one: the curve has that heat there, each stream that runs has it in its
-- range, it changes by the heat over the flow, and it is a whole number over the flow
pub record IsScale (of : Side) (streams : List Stream) (are : AreSensibleStreams streams) (low high flow : ℤ)
    (scale : ℤ → Rational) : Type 0 where
  pub heat : (q : ℤ) → low ≤ℤ q → q ≤ℤ high → curve_heat of streams (scale q) ≡ whole q
  pub range : (q : ℤ) → low ≤ℤ q → q ≤ℤ high → (r : Stream) → Runs of streams are low high r → IsInRange r (scale q)
  pub change : (q p : ℤ) → minus (scale p) (scale q) ≡ ratio (p -ℤ q) (unsigned_abs flow)
  pub rises : (q p : ℤ) → q <ℤ p → IsBelow (scale q) (scale p)
  pub over : (q : ℤ) → IsOver (unsigned_abs flow) (scale q)

-- ---- along a segment

module _ (of : Side) (streams : List Stream) (are : AreSensibleStreams streams) (low high : ℤ)
    (gap : low <ℤ high) (begin end : ℤ) (is : IsSegment (heat_at of streams) low high begin end)
    (none : HaveNoEnd of streams are low high) where
  abbrev flow : ℤ
  flow = flow_running of streams are low high

  abbrev d : ℕ
  d = unsigned_abs flow

  flow_is : flow ≡ pos d
  flow_is = size_is flow (flow_positive of streams are low high gap begin end is none)

  some : 0 < d
  some = size_above flow (flow_positive of streams are low high gap begin end is none)

  -- in parts of the flow, by as much above the begin of the segment as the heat exceeds the one there
  abbrev place : ℤ → ℤ
  place q = begin *ℤ pos d +ℤ (q -ℤ heat_at of streams begin)

  -- there the curve has d times the heat
  on_line : (q : ℤ) → (begin *ℤ pos d) ≤ℤ place q → place q ≤ℤ (end *ℤ pos d)
      → curve_parts d of streams (place q) ≡ q *ℤ pos d
  on_line q from upto =
      let more = q -ℤ heat_at of streams begin in
      let further : place q -ℤ begin *ℤ pos d ≡ more = omega (arith, ints) in
      let product = ap (λ z. flow *ℤ z) further ∙ *ℤ_comm flow more ∙ ap (λ z. more *ℤ z) flow_is in
      omega (
        arith,
        ints,
        line of streams are low high gap begin end is none d some (place q) from upto,
        product,
        -ℤ-*ℤ q (heat_at of streams begin) (pos d),
      )

  -- the end of the segment
  end_place : place (heat_at of streams end) ≡ end *ℤ pos d
  end_place =
      let last = heat_at of streams begin +ℤ (end *ℤ pos d -ℤ begin *ℤ pos d) in
      let same : place last ≡ end *ℤ pos d = omega (arith, ints) in
      let whole = ap (curve_parts d of streams) same ∙ curve_parts-whole d of streams end some are.each in
      let heat : heat_at of streams end ≡ last
      = *ℤ_cancel_right (pos d) (heat_at of streams end) last (pos_above d some)
      (sym whole
      ∙ on_line last (omega (arith, ints, same, scaled d begin end (omega (arith, ints, is.rises))))
      (omega (arith, ints, same))) in
      omega (arith, ints, heat)

  module _ (q : ℤ) (from : low ≤ℤ q) (upto : q ≤ℤ high) where
    after_begin : (begin *ℤ pos d) ≤ℤ place q
    after_begin = omega (arith, ints, is.begin_is, from)

    before_end : place q ≤ℤ (end *ℤ pos d)
    before_end = omega (arith, ints, is.end_is, end_place, upto)

    heat_there : curve_heat of streams (ratio (place q) d) ≡ whole q
    heat_there =
        curve_heat-ratio d some of streams (place q) are.each
        ∙ ap (λ z. ratio z d) (on_line q after_begin before_end) ∙ ratio-multiple q d some

    in_range : (r : Stream) → Runs of streams are low high r → IsInRange r (ratio (place q) d)
    in_range r runs =
        let lower = scaled d (low_end r) begin (is.begun (low_end r) runs.from) in
        let upper = scaled d end (high_end r) (is.ended (high_end r) runs.upto) in
        let least = at_most-whole_ratio (low_end r) (place q) d some (omega (arith, ints, lower, after_begin)) in
        (least, at_most-ratio_whole (place q) (high_end r) d some (omega (arith, ints, upper, before_end)))

  change_over : (q p : ℤ) → minus (ratio (place p) d) (ratio (place q) d) ≡ ratio (p -ℤ q) d
  change_over q p =
      let apart : place p -ℤ place q ≡ p -ℤ q = omega (arith, ints) in
      minus-ratio_same_den (place p) (place q) d ∙ ap (λ z. ratio z d) apart

  pub segment_scale : (scale : ℤ → Rational) × IsScale of streams are low high flow scale
  segment_scale = (
    λ q. ratio (place q) d,
    record {
      heat = heat_there;
      range = in_range;
      change = change_over;
      rises = λ q p less. below-ratio (place q) (place p) d some (omega (arith, ints, less));
      over = λ q. record { num = place q; is = refl };
    },
  )
