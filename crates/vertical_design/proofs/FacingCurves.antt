-- Where the two shifted curves have one heat, the hot temperature is at least the cold one, if a stream runs there on
-- the right side.
use Rattle.vertical_design.proofs.Words.{AreSensibleStreams, Contains, IsAtMost, IsBelow, Rational, Side, Stream, at_most_below_trans, below-ratio}
use Rattle.vertical_design.proofs.Words.{below_at_most_trans, by_one, by_two, clamps, curve_heat, high_end, int_le, int_le-false, int_le-from}
use Rattle.vertical_design.proofs.Words.{int_max, int_min, ints, low_end, ratio, ratio-multiple, subst₂, whole, ◌&&◌}
use Rattle.std.proofs.Common.{List, arith, if◌then◌else◌, inl, inr, pos, subst, sym, ℤ, ◌-ℤ◌, ◌<ℤ◌, ◌≡◌, ◌≤ℤ◌}
use Rattle.fractions.proofs.Comparisons.{at_most-ratio, at_most_antisymm, at_most_from_not_below, below_from_ratio, below_not_same}
use Rattle.vertical_design.proofs.CurveParts.{low_parts, high_parts, curve_parts, curve_heat-ratio, curve_rises_along}
use Rattle.vertical_design.proofs.CurveOrder.{IsOutside, curves_in_order}
use Rattle.stream_case.specs.declared.source.Side.TheVariants as side

module _ (streams : List Stream) (are : AreSensibleStreams streams) where
  -- the hot curve has at most the heat of the cold one
  in_order : (t : Rational) → IsAtMost (curve_heat side.Hot streams t) (curve_heat side.Cold streams t)
  in_order =
      by_one (λ t. IsAtMost (curve_heat side.Hot streams t) (curve_heat side.Cold streams t)) (λ n d some.
      let hot_is = curve_heat-ratio d some side.Hot streams n are.each in
      let cold_is = curve_heat-ratio d some side.Cold streams n are.each in
      let ordered = curves_in_order streams are d some n in
      let at_most =
      at_most-ratio (curve_parts d side.Hot streams n) (curve_parts d side.Cold streams n) d some ordered in
      subst₂ IsAtMost (sym hot_is) (sym cold_is) at_most)

  module _ (r : Stream) (member : Contains streams r) where
    -- a curve rises where a stream has a part of its range
    abbrev RisesAlong : Rational → Rational → Type 0
    RisesAlong t u =
        IsBelow t u → IsBelow (whole (low_end r)) u → IsBelow t (whole (high_end r))
        → IsBelow (curve_heat r.side streams t) (curve_heat r.side streams u)

    rises_along : (t u : Rational) → RisesAlong t u
    rises_along = by_two RisesAlong (λ n m d some less from upto.
        let low_parts_are = ratio-multiple (low_end r) d some in
        let above =
        below_from_ratio (low_parts d r) m d some (subst (λ x. IsBelow x (ratio m d)) (sym low_parts_are) from) in
        let high_parts_are = ratio-multiple (high_end r) d some in
        let under =
        below_from_ratio n (high_parts d r) d some (subst (IsBelow (ratio n d)) (sym high_parts_are) upto) in
        let first_is = curve_heat-ratio d some r.side streams n are.each in
        let second_is = curve_heat-ratio d some r.side streams m are.each in
        let further = below_from_ratio n m d some less in
        let rises = curve_rises_along d some streams n m r are.each member further above under in
        let below = below-ratio (curve_parts d r.side streams n) (curve_parts d r.side streams m) d some rises in
        subst₂ IsBelow (sym first_is) (sym second_is) below)

    -- two temperatures with one heat of both curves, of which the cold one is above and the stream has a part of its range there
    clash : (hot cold : Rational) → curve_heat side.Hot streams hot ≡ curve_heat side.Cold streams cold
        → (of : Side) → IsBelow (curve_heat of streams hot) (curve_heat of streams cold) → ⊥
    clash hot cold same side.Hot rise =
        let rises = below_at_most_trans (curve_heat side.Hot streams hot) (curve_heat side.Hot streams cold)
        (curve_heat side.Cold streams cold) rise (in_order cold) in
        below_not_same (curve_heat side.Hot streams hot) (curve_heat side.Cold streams cold) rises same
    clash hot cold same side.Cold rise =
        let rises = at_most_below_trans (curve_heat side.Hot streams hot) (curve_heat side.Cold streams hot)
        (curve_heat side.Cold streams cold) (in_order hot) rise in
        below_not_same (curve_heat side.Hot streams hot) (curve_heat side.Cold streams cold) rises same

    pub approach_below : (hot cold : Rational) → r.side ≡ side.Cold → IsBelow (whole (low_end r)) cold
        → IsAtMost cold (whole (high_end r))
        → curve_heat side.Hot streams hot ≡ curve_heat side.Cold streams cold → IsAtMost cold hot
    approach_below hot cold on_side from upto same =
        at_most_from_not_below hot cold (λ less.
        let below_end = below_at_most_trans hot cold (whole (high_end r)) less upto in
        let rises = rises_along hot cold less from below_end in
        clash hot cold same r.side rises)

    pub approach_above : (hot cold : Rational) → r.side ≡ side.Hot → IsAtMost (whole (low_end r)) hot
        → IsBelow hot (whole (high_end r))
        → curve_heat side.Hot streams hot ≡ curve_heat side.Cold streams cold → IsAtMost cold hot
    approach_above hot cold on_side from upto same =
        at_most_from_not_below hot cold (λ less.
        let above_end = at_most_below_trans (whole (low_end r)) hot cold from less in
        let rises = rises_along hot cold less above_end upto in
        clash hot cold same r.side rises)

    -- two temperatures of a stream's range with one heat on its curve are one
    pub one_place : (t u : Rational) → IsAtMost (whole (low_end r)) t → IsAtMost t (whole (high_end r))
        → IsAtMost (whole (low_end r)) u → IsAtMost u (whole (high_end r))
        → curve_heat r.side streams t ≡ curve_heat r.side streams u → t ≡ u
    one_place t u t_from t_upto u_from u_upto same =
        at_most_antisymm t u (no_less u t u_from t_upto (sym same)) (no_less t u t_from u_upto same)
      where
        no_less : (a b : Rational) → IsAtMost (whole (low_end r)) a → IsAtMost b (whole (high_end r))
            → curve_heat r.side streams a ≡ curve_heat r.side streams b → IsAtMost b a
        no_less a b from upto is =
            at_most_from_not_below a b (λ less.
            let above_end = at_most_below_trans (whole (low_end r)) a b from less in
            let below_end = below_at_most_trans a b (whole (high_end r)) less upto in
            let rises = rises_along a b less above_end below_end in
            below_not_same (curve_heat r.side streams a) (curve_heat r.side streams b) rises is)

-- ---- a gap between cuts, and a range of the axis neither end of which lies inside of it

-- its heat, where the range reaches over it
abbrev pub heat_across : ℤ → ℤ → ℤ → ℤ → ℤ
heat_across begin end low high = if int_le begin low && int_le high end then high -ℤ low else pos 0

-- the place of the range next to a cut
abbrev pub bounded : ℤ → ℤ → ℤ → ℤ
bounded begin end x = int_min (int_max x begin) end

pub across-bounded : (begin end low high : ℤ) → begin ≤ℤ end → low <ℤ high → IsOutside low high begin
    → IsOutside low high end
    → heat_across begin end low high ≡ bounded begin end high -ℤ bounded begin end low
across-bounded begin end low high order falls (inr above) any =
    rw (int_le-false begin low (omega (arith, ints, above, falls))) (omega (arith, ints, clamps))
across-bounded begin end low high order falls (inl from) (inl below) =
    rw (int_le-from begin low from, int_le-false high end (omega (arith, ints, below, falls)))
    (omega (arith, ints, clamps))
across-bounded begin end low high order falls (inl from) (inr upto) =
    rw (int_le-from begin low from, int_le-from high end upto) (omega (arith, ints, clamps))
