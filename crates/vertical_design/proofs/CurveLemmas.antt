-- The shifted curves of both sides: what each stream has below a temperature, their sums, and where a curve begins and
-- ends.
use Rattle.vertical_design.proofs.Words.{*ℤ-+ℤ, *ℤ-zero, +ℤ-*ℤ, All-head, All-tail, All-weaker, AreEnds-IsValidStream, AreSensibleStreams}
use Rattle.vertical_design.proofs.Words.{HIGHEST_SHIFTED, IsBetween, IsSensibleStream, IsStreamHeat, IsValidStream, LOWEST_SHIFTED, Side, Stream}
use Rattle.vertical_design.proofs.Words.{begin_of, clamps, heat-between, heat_above, heat_at, heat_below, heat_of, heat_of-sensible}
use Rattle.vertical_design.proofs.Words.{heat_over-between, heat_over-sensible, high_end, ints, length-AreStreams, length_above, length_below}
use Rattle.vertical_design.proofs.Words.{low_end, range-length, same_side, sum_side, sum_side-heat, sum_side-le, sum_side-same, sum_side-zero, whole}
use Rattle.std.proofs.Common.{All, Bool, List, [], ap, arith, false, if◌then◌else◌, pos, refl, sym, true, ℤ, ◌*ℤ◌, ◌+ℤ◌, ◌-ℤ◌, ◌∙◌, ◌∷◌, ◌≡◌, ◌≤ℤ◌}

-- ---- a stream

pub heat_below-between : (t : ℤ) (s : Stream) → IsValidStream s → IsStreamHeat (heat_below t s)
heat_below-between t s h =
    let range = range-length s h in
    let ends = AreEnds-IsValidStream s h in
    let heat = heat-between s (length_below (low_end s) (high_end s) t) h (record {
      from = omega (arith, ints, clamps);
      upto = omega (arith, ints, clamps);
    }) in
    record { from = heat.from; upto = omega (arith, ints, heat.upto) }

-- all of it lies below a temperature that is not below its range, and none below one that is not above it
pub heat_below-all : (t : ℤ) (s : Stream) → IsSensibleStream s → high_end s ≤ℤ t → heat_below t s ≡ heat_of s
heat_below-all t s h above =
    let ends = AreEnds-IsValidStream s h.valid in
    let whole : length_below (low_end s) (high_end s) t ≡ high_end s -ℤ low_end s = omega (arith, ints, clamps) in
    ap (λ l. s.cp *ℤ l) whole ∙ sym (heat_of-sensible s h.sensible)

heat_below-none : (t : ℤ) (s : Stream) → IsSensibleStream s → t ≤ℤ low_end s → heat_below t s ≡ pos 0
heat_below-none t s h under =
    let ends = AreEnds-IsValidStream s h.valid in
    let nothing : length_below (low_end s) (high_end s) t ≡ pos 0 = omega (arith, ints, clamps) in
    ap (λ l. s.cp *ℤ l) nothing ∙ *ℤ-zero s.cp

-- the heat below and that above are all of it
pub below_and_above : (t : ℤ) (s : Stream) → IsSensibleStream s → heat_of s ≡ heat_below t s +ℤ heat_above t s
below_and_above t s h =
    let ends = AreEnds-IsValidStream s h.valid in
    let below = length_below (low_end s) (high_end s) t in
    let above = length_above (low_end s) (high_end s) t in
    let parts : high_end s -ℤ low_end s ≡ below +ℤ above = omega (arith, ints, clamps) in
    heat_of-sensible s h.sensible ∙ ap (λ l. s.cp *ℤ l) parts ∙ *ℤ-+ℤ s.cp below above
    ∙ ap (λ z. heat_below t s +ℤ z) (sym (heat_over-sensible false t s h.sensible))

heat_below-le : (t : ℤ) (s : Stream) → IsSensibleStream s → heat_below t s ≤ℤ heat_of s
heat_below-le t s h = omega (arith, ints, below_and_above t s h, (heat_over-between false t s h.valid).from)

-- ---- sums

-- where f is g and c times h for each stream of a side, so it is in their sums
pub sum_side-linear : (of : Side) (f g h : Stream → ℤ) (c : ℤ) (streams : List Stream)
    → All (λ s. same_side s.side of ≡ true → f s ≡ g s +ℤ h s *ℤ c) streams
    → sum_side of f streams ≡ sum_side of g streams +ℤ sum_side of h streams *ℤ c
sum_side-linear of f g h c [] each = omega (arith, ints)
sum_side-linear of f g h c (s ∷ ss) each =
    by (same_side s.side of) (All-head Q s ss each) (sum_side-linear of f g h c ss (All-tail Q s ss each))
  where
    Q : Stream → Type 0
    Q r = same_side r.side of ≡ true → f r ≡ g r +ℤ h r *ℤ c

    by : (b : Bool) → (b ≡ true → f s ≡ g s +ℤ h s *ℤ c) → sum_side of f ss ≡ sum_side of g ss +ℤ sum_side of h ss *ℤ c
        → (if b then f s else pos 0) +ℤ sum_side of f ss
        ≡ ((if b then g s else pos 0) +ℤ sum_side of g ss) +ℤ ((if b then h s else pos 0) +ℤ sum_side of h ss) *ℤ c
    by true first rest =
        let own = first refl in
        omega (arith, ints, own, rest, +ℤ-*ℤ (h s) (sum_side of h ss) c)
    by false first rest = omega (arith, ints, rest, +ℤ-*ℤ (pos 0) (sum_side of h ss) c)

-- ---- a whole curve

-- the heat where it ends
abbrev pub end_of : Side → List Stream → ℤ
end_of of streams = begin_of of streams +ℤ sum_side of heat_of streams

module _ (of : Side) (streams : List Stream) (are : AreSensibleStreams streams) where
  -- at the lowest temperature it begins, and at the highest it has all heat
  pub curve_begins : heat_at of streams LOWEST_SHIFTED ≡ begin_of of streams
  curve_begins =
      let nothing = λ (s : Stream) (h : IsSensibleStream s). heat_below-none LOWEST_SHIFTED s h
      (AreEnds-IsValidStream s h.valid).from in
      let nothing_below =
      All-weaker IsSensibleStream (λ s. heat_below LOWEST_SHIFTED s ≡ pos 0) nothing streams are.each in
      let none = sum_side-zero of (heat_below LOWEST_SHIFTED) streams nothing_below in
      omega (arith, ints, none)

  pub curve_ends : heat_at of streams HIGHEST_SHIFTED ≡ end_of of streams
  curve_ends =
      let all = λ (s : Stream) (h : IsSensibleStream s). heat_below-all HIGHEST_SHIFTED s h
      (AreEnds-IsValidStream s h.valid).upto in
      ap (λ z. begin_of of streams +ℤ z) (sum_side-same of (heat_below HIGHEST_SHIFTED) heat_of streams
      (All-weaker IsSensibleStream (λ s. heat_below HIGHEST_SHIFTED s ≡ heat_of s) all streams are.each))

  -- all of it lies between
  pub on_curve : (t : ℤ) → IsBetween (begin_of of streams) (end_of of streams) (heat_at of streams t)
  on_curve t =
      let few = length-AreStreams streams are.are in
      let some = (sum_side-heat of (heat_below t) (heat_below-between t) streams are.are.each few).from in
      let most = sum_side-le of (heat_below t) heat_of streams
      (All-weaker IsSensibleStream (λ s. heat_below t s ≤ℤ heat_of s) (heat_below-le t) streams are.each) in
      record { from = omega (arith, ints, some); upto = omega (arith, ints, most) }
