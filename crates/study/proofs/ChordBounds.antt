-- Chords through least costs: how large their numbers are, and how far they lie above least costs.
use Rattle.study.proofs.Words.{*ℤ_comm, Case, Chord, CostsWith, IsChord, IsCost, IsGap, IsPrice, IsSmallChord, IsWithin}
use Rattle.study.proofs.Words.{by_lt_z, chord_at, ints, neg_ℤ, neg_ℤ-*ℤ, one_times, pos, product_within, to_z-of_z, w128}
use Rattle.study.proofs.Words.{ℤ, ◌*ℤ◌, ◌+ℤ◌, ◌-ℤ◌}
use Rattle.std.proofs.Common.{FitsSigned, ap, arith, of_z, subst, to_z, ℕ, ◌*◌, ◌^◌, ◌≡◌}

product_both_within : (a b : ℤ) (m n : ℕ) → IsWithin (pos m) a → IsWithin (pos n) b → IsWithin (pos (m * n)) (a *ℤ b)
product_both_within a b m n x y =
    let x_from = x.from in
    let x_upto = x.upto in
    let y_upto = y.upto in
    by_lt_z b (pos 0) (λ below.
    let bound = product_within a (neg_ℤ b) m n x_from x_upto (omega (arith, ints)) (omega (arith, ints)) in
    let turned = neg_ℤ-*ℤ b a in
    let one = *ℤ_comm a b in
    let two = *ℤ_comm a (neg_ℤ b) in
    omega (arith, ints)) (λ above.
    let bound = product_within a b m n x_from x_upto above y_upto in
    record { from = bound.0; upto = bound.1 })

module _ (chord : Chord) (price : ℤ) (small : IsSmallChord chord) (is : IsPrice price) where
  -- how much a chord rises
  rise_within : IsWithin (pos (2000000 * 20000000000000000000000)) ((price -ℤ chord.from) *ℤ chord.slope)
  rise_within =
      let a = small.from.from in
      product_both_within (price -ℤ chord.from) chord.slope 2000000 20000000000000000000000 (omega (arith, ints))
      (omega (arith, ints))

  -- what the code computes of it fits, and is what it costs; z is the way from its first price
  module _ (z : ℤ) (ahead : to_z w128 (of_z w128 z) ≡ price -ℤ chord.from) where
    slope_is : to_z w128 (of_z w128 chord.slope) ≡ chord.slope
    slope_is = omega (arith, ints)

    cost_is : to_z w128 (of_z w128 chord.cost) ≡ chord.cost
    cost_is = omega (arith, ints)

    whole_rise_fits : FitsSigned w128 ((price -ℤ chord.from) *ℤ chord.slope)
    whole_rise_fits =
        let a = rise_within.from in
        let b = rise_within.upto in
        omega (arith, ints)

    whole_cost_fits : FitsSigned w128 (chord_at chord price)
    whole_cost_fits =
        let a = rise_within.from in
        let b = rise_within.upto in
        omega (arith, ints)

    rise_is : to_z w128 (of_z w128 (to_z w128 (of_z w128 z) *ℤ to_z w128 (of_z w128 chord.slope)))
        ≡ (price -ℤ chord.from) *ℤ chord.slope
    rise_is = rw (ahead, slope_is) (to_z-of_z w128 ((price -ℤ chord.from) *ℤ chord.slope) whole_rise_fits)

    pub rise-fits : FitsSigned w128 (to_z w128 (of_z w128 z) *ℤ to_z w128 (of_z w128 chord.slope))
    rise-fits = rw (ahead, slope_is) whole_rise_fits

    pub cost-fits : FitsSigned w128
        (to_z w128 (of_z w128 chord.cost)
        +ℤ to_z w128 (of_z w128 (to_z w128 (of_z w128 z) *ℤ to_z w128 (of_z w128 chord.slope))))
    cost-fits = rw (cost_is, rise_is) whole_cost_fits

    pub cost-told : to_z w128
        (of_z w128 (to_z w128 (of_z w128 chord.cost)
        +ℤ to_z w128 (of_z w128 (to_z w128 (of_z w128 z) *ℤ to_z w128 (of_z w128 chord.slope)))))
        ≡ chord_at chord price
    cost-told = rw (cost_is, rise_is) (to_z-of_z w128 (chord_at chord price) whole_cost_fits)

-- how far a chord is above a cost at a price
pub gap-within : (chord : Chord) (price cost on : ℤ) → IsSmallChord chord → IsPrice price → IsCost cost
    → on ≡ chord_at chord price → IsGap (on -ℤ cost)
gap-within chord price cost on small is near at =
    let rise = rise_within chord price small is in
    let a = rise.from in
    let b = rise.upto in
    let d = small.cost.from in
    let e = small.cost.upto in
    let f = near.from in
    let g = near.upto in
    record { from = omega (arith, ints); upto = omega (arith, ints) }

-- what is left of such a gap times a way between two prices, less 1, fits
pub gap-times : (run gap : ℤ) → IsWithin (pos 2000000) run → IsGap gap → IsWithin (pos (2000000 * 2 ^ 100)) (run *ℤ gap)
gap-times run gap way is = product_both_within run gap 2000000 (2 ^ 100) way is

-- a chord costs at its second price what it costs at its first one, and its slope
pub chord-second : (chord : Chord) → chord_at chord (chord.from +ℤ pos 1) ≡ chord.cost +ℤ chord.slope
chord-second chord =
    ap (λ z. chord.cost +ℤ z) (one_times (chord.from +ℤ pos 1 -ℤ chord.from) chord.slope (omega (arith, ints)))

module _ (c : Case) (i : ℕ) where
  -- the chord through two least costs
  pub chord_of : (chord : Chord) (next : ℤ) → IsPrice chord.from → IsCost chord.cost → IsCost next
      → chord.slope ≡ next -ℤ chord.cost
      → CostsWith c i chord.from chord.cost → CostsWith c i (chord.from +ℤ pos 1) next → IsChord c i chord
  chord_of chord next is cost next_cost slope first second = record {
    small = record { from = is; cost = cost; slope = omega (arith, ints) };
    first = first;
    next =
        subst (CostsWith c i (chord.from +ℤ pos 1)) {x = next} {y = chord.cost +ℤ chord.slope}
        (omega (arith, ints)) second;
  }
