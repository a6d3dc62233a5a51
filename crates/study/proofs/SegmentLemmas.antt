-- The segments that chords make.
use Rattle.study.proofs.Words.{*ℤ-+ℤ, *ℤ--ℤ, *ℤ_comm, AreSegments, Case, CostsWith, IsBetween, IsChord, IsChordEnd}
use Rattle.study.proofs.Words.{Chord, IsSegment, Segment, chord_at, ints, on_line, pos, ℤ, ◌*ℤ◌, ◌+ℤ◌, ◌-ℤ◌, ◌<ℤ◌}
use Rattle.std.proofs.Common.{List, ap, arith, length, refl, subst, sym, ℕ, [], ◌++◌, ◌<◌, ◌∙◌, ◌∷◌, ◌≡◌}
use Rattle.study.proofs.LeastCosts.{on_chord-between}

pub chord-moved : (chord : Chord) (s : Segment) (p : ℤ) → s.base ≡ chord_at chord (pos 0) → s.slope ≡ chord.slope
    → on_line s p ≡ chord_at chord p
chord-moved chord s p base slope =
    let first = ap (λ z. p *ℤ z) slope in
    let split = *ℤ--ℤ chord.slope p chord.from in
    let none = *ℤ--ℤ chord.slope (pos 0) chord.from in
    let a = *ℤ_comm p chord.slope in
    let b = *ℤ_comm (p -ℤ chord.from) chord.slope in
    let d = *ℤ_comm (pos 0 -ℤ chord.from) chord.slope in
    omega (arith, ints)

pub next_on_line : (s : Segment) (p : ℤ) → on_line s (p +ℤ pos 1) -ℤ on_line s p ≡ s.slope
next_on_line s p =
    let a = *ℤ_comm (p +ℤ pos 1) s.slope in
    let b = *ℤ_comm p s.slope in
    let d = *ℤ-+ℤ s.slope p (pos 1) in
    omega (arith, ints)

module _ (c : Case) (i : ℕ) where
  pub segment-of_chord : (chord : Chord) (to : ℤ) (s : Segment) → i < length c.utilities → IsChord c i chord
      → IsChordEnd c i chord to s.to → chord.from <ℤ to
      → s.from ≡ chord.from → s.base ≡ chord_at chord (pos 0) → s.slope ≡ chord.slope → IsSegment c i to s
  segment-of_chord chord to s there is ends ahead from base slope =
      let upto = ends.range.upto in
      record {
        end = record { from = omega (arith, ints); upto = upto };
        slope = λ h. on (s.from +ℤ pos 1) (omega (arith, ints));
        flat = λ h. absurd (omega (arith, ints));
        line = on;
        greatest =
            λ h on. ends.off h (subst (CostsWith c i (s.to +ℤ pos 1))
            (chord-moved chord s (s.to +ℤ pos 1) base slope) on);
      }
    where
      on : (p : ℤ) → IsBetween s.from s.to p → CostsWith c i p (on_line s p)
      on p within =
          let high = within.upto in
          subst (CostsWith c i p) (sym (chord-moved chord s p base slope))
          (on_chord-between c i there chord to s.to is ends p (record { from = omega (arith, ints); upto = high }))

  pub segment-last : (price : ℤ) (s : Segment) → CostsWith c i price s.base → s.from ≡ price → s.to ≡ price
      → s.slope ≡ pos 0 → IsSegment c i price s
  segment-last price s least from to slope = record {
    end = omega (arith, ints);
    slope = λ h. absurd (omega (arith, ints));
    flat = λ h. slope;
    line = λ p within. let is : price ≡ p = omega (arith, ints) in
        let none = ap (λ z. p *ℤ z) slope in
        let base : s.base ≡ on_line s p = omega (arith, ints) in
        subst (λ q. CostsWith c i q (on_line s p)) is (subst (CostsWith c i price) base least);
    greatest = λ h on. absurd (omega (arith, ints));
  }

  -- ---- the segments of a span

  pub one_more_segment : (to from next : ℤ) (segments : List Segment) (s : Segment)
      → AreSegments c i to from next segments → s.from ≡ next
      → IsSegment c i to s → AreSegments c i to from (s.to +ℤ pos 1) (segments ++ s ∷ [])
  one_more_segment to from next [] s are at is = (at ∙ sym are, is, refl)
  one_more_segment to from next (t ∷ segments) s (first, here, rest) at is =
      (first, here, one_more_segment to (t.to +ℤ pos 1) next segments s rest at is)
