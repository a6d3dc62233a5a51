-- The shifted curves at temperatures with one denominator d: whole numbers of parts, d to a tenth of a degree.
use Rattle.vertical_design.proofs.Words.{*ℤ--ℤ, *ℤ-<ℤ_right, *ℤ-≤ℤ_left, *ℤ-≤ℤ_right, *ℤ_cancel_right, All-contains, All-weaker}
use Rattle.vertical_design.proofs.Words.{AreEnds-IsValidStream, Contains, IsAtMost, IsSensibleStream, Side, Stream, at_most_from_ratio, begin_of}
use Rattle.vertical_design.proofs.Words.{clamps, curve_heat, distance_above, full_size-sensible, heat_at, heat_below, high_end, int_max}
use Rattle.vertical_design.proofs.Words.{int_sum_by-equal, ints, length_below, low_end, minus, minus-ratio_same_den, order-sensible, own_side, plus}
use Rattle.vertical_design.proofs.Words.{plus-ratio_same_den, pos_above, positive_from_ratio, positive_part, positive_part-cases, product_positive}
use Rattle.vertical_design.proofs.Words.{range_below, ratio, ratio-multiple, ratio-one, ratio-zero, rational_sum_by-ratio, rational_sum_by-same}
use Rattle.vertical_design.proofs.Words.{rational_zero, same_from_ratio, same_side, stream_heat, strictly, sum_side, sum_side-le, sum_side-same}
use Rattle.vertical_design.proofs.Words.{times, times-ratio, whole}
use Rattle.std.proofs.Common.{All, Bool, List, ap, ap₂, arith, false, get_or, if◌then◌else◌, pos, refl, subst, sym, true, ℕ, ℤ, ◌*ℤ◌, ◌*◌, ◌+ℤ◌, ◌-ℤ◌}
use Rattle.std.proofs.Common.{◌<ℤ◌, ◌<◌, ◌∙◌, ◌≡◌, ◌≤ℤ◌}

-- the ends of a stream in parts, its range below n parts, its heat there and that of the curve of a side, d times each
abbrev pub low_parts : ℕ → Stream → ℤ
low_parts d s = low_end s *ℤ pos d

abbrev pub high_parts : ℕ → Stream → ℤ
high_parts d s = high_end s *ℤ pos d

abbrev pub length_parts : ℕ → ℤ → Stream → ℤ
length_parts d n s = length_below (low_parts d s) (high_parts d s) n

abbrev pub parts_below : ℕ → ℤ → Stream → ℤ
parts_below d n s = s.cp *ℤ length_parts d n s

abbrev pub curve_parts : ℕ → Side → List Stream → ℤ → ℤ
curve_parts d of streams n = begin_of of streams *ℤ pos d +ℤ sum_side of (parts_below d n) streams

-- whole numbers keep their order in parts
pub scaled : (d : ℕ) (x y : ℤ) → x ≤ℤ y → (x *ℤ pos d) ≤ℤ (y *ℤ pos d)
scaled d x y = *ℤ-≤ℤ_right (pos d) x y (omega (arith, ints))

positive_part-ratio : (m : ℤ) (d : ℕ) → 0 < d → positive_part (ratio m d) ≡ ratio (int_max m (pos 0)) d
positive_part-ratio m d some =
    positive_part-cases (λ x. x ≡ ratio (int_max m (pos 0)) d) (ratio m d)
    (λ above.
    let more = positive_from_ratio m d some above in
    let same : m ≡ int_max m (pos 0) = omega (arith, ints, clamps) in
    ap (λ z. ratio z d) same)
    (λ upto.
    let most = at_most_from_ratio m (pos 0) d some (subst (IsAtMost (ratio m d)) (sym (ratio-zero d)) upto) in
    let none : pos 0 ≡ int_max m (pos 0) = omega (arith, ints, clamps) in
    sym (ratio-zero d) ∙ ap (λ z. ratio z d) none)

module _ (d : ℕ) (some : 0 < d) where
  distance-ratio : (n x : ℤ) → positive_part (minus (ratio n d) (whole x)) ≡ ratio (distance_above n (x *ℤ pos d)) d
  distance-ratio n x =
      ap positive_part (ap (minus (ratio n d)) (sym (ratio-multiple x d some)) ∙ minus-ratio_same_den n (x *ℤ pos d) d)
      ∙ positive_part-ratio (n -ℤ x *ℤ pos d) d some

  stream_heat-ratio : (n : ℤ) (s : Stream) → IsSensibleStream s
      → stream_heat (ratio n d) s ≡ ratio (parts_below d n s) d
  stream_heat-ratio n s h =
      let ends = ap₂ minus (distance-ratio n (low_end s)) (distance-ratio n (high_end s)) in
      let range : range_below (ratio n d) s ≡ ratio (length_parts d n s) d = ends ∙ minus-ratio_same_den _ _ d in
      let one : 1 * d ≡ d = omega arith in
      let size = full_size-sensible s h.sensible ∙ sym (ratio-one s.cp) in
      ap₂ times size range ∙ times-ratio s.cp (length_parts d n s) 1 d (omega arith) some
      ∙ ap (ratio (parts_below d n s)) one

  -- the heat of the curve at n/d
  pub curve_heat-ratio : (of : Side) (streams : List Stream) (n : ℤ) → All IsSensibleStream streams
      → curve_heat of streams (ratio n d) ≡ ratio (curve_parts d of streams n) d
  unfolding curve_heat
  curve_heat-ratio of streams n valid =
      let term = λ (s : Stream). if same_side s.side of then parts_below d n s else pos 0 in
      let heat = λ (s : Stream). if same_side s.side of then stream_heat (ratio n d) s else rational_zero in
      let same = λ (s : Stream) (h : IsSensibleStream s). by (same_side s.side of) s h in
      let each = rational_sum_by-same heat (λ s. ratio (term s) d) streams (λ k o within.
      same (get_or streams k o) (valid k o within)) in
      let total = rational_sum_by-ratio term (sum_side of (parts_below d n)) d refl (λ s ss. refl) streams in
      ap₂ plus (sym (ratio-multiple (begin_of of streams) d some)) (each ∙ total)
      ∙ plus-ratio_same_den (begin_of of streams *ℤ pos d) (sum_side of (parts_below d n) streams) d
    where
      by : (b : Bool) (s : Stream) → IsSensibleStream s
          → (if b then stream_heat (ratio n d) s else rational_zero) ≡ ratio (if b then parts_below d n s else pos 0) d
      by true s h = stream_heat-ratio n s h
      by false s h = sym (ratio-zero d)

-- ---- at whole temperatures

-- the curve is the one of the axis
pub whole_heat : (of : Side) (streams : List Stream) (t : ℤ) → All IsSensibleStream streams
    → curve_heat of streams (whole t) ≡ whole (heat_at of streams t)
whole_heat of streams t valid =
    let one : (s : Stream) → length_parts 1 (t *ℤ pos 1) s ≡ length_below (low_end s) (high_end s) t
    = λ s. omega (arith, ints, clamps) in
    let sums = sum_side-same of (parts_below 1 (t *ℤ pos 1)) (heat_below t) streams (λ k o within.
    let s = get_or streams k o in
    ap (λ l. s.cp *ℤ l) (one s)) in
    let is : curve_parts 1 of streams (t *ℤ pos 1) ≡ heat_at of streams t = omega (arith, ints, sums) in
    ap (curve_heat of streams) (sym (ratio-multiple t 1 (omega arith)))
    ∙ curve_heat-ratio 1 (omega arith) of streams (t *ℤ pos 1) valid
    ∙ ap (λ z. ratio z 1) is ∙ ratio-one (heat_at of streams t)

pub curve_parts-whole : (d : ℕ) (of : Side) (streams : List Stream) (t : ℤ) → 0 < d → All IsSensibleStream streams
    → curve_parts d of streams (t *ℤ pos d) ≡ heat_at of streams t *ℤ pos d
curve_parts-whole d of streams t some valid =
    let parts = curve_parts d of streams (t *ℤ pos d) in
    let heat = heat_at of streams t *ℤ pos d in
    *ℤ_cancel_right (pos d) parts heat (pos_above d some) (same_from_ratio parts heat d d some some
    (sym (curve_heat-ratio d some of streams (t *ℤ pos d) valid) ∙ ap (curve_heat of streams) (ratio-multiple t d some)
    ∙ whole_heat of streams t valid ∙ sym (ratio-multiple (heat_at of streams t) d some)))

-- ---- a curve rises

module _ (d : ℕ) where
  pub ends_order : (s : Stream) → IsSensibleStream s → low_parts d s ≤ℤ high_parts d s
  ends_order s h = scaled d (low_end s) (high_end s) (AreEnds-IsValidStream s h.valid).order

  parts_rise : (n m : ℤ) → n ≤ℤ m → (s : Stream) → IsSensibleStream s → parts_below d n s ≤ℤ parts_below d m s
  parts_rise n m upto s h =
      *ℤ-≤ℤ_left s.cp (length_parts d n s) (length_parts d m s) (omega (arith, ints, h.sensible.cp.from))
      (omega (arith, ints, clamps, ends_order s h, upto))

  pub curve_rises : (of : Side) (streams : List Stream) (n m : ℤ) → All IsSensibleStream streams → n ≤ℤ m
      → curve_parts d of streams n ≤ℤ curve_parts d of streams m
  curve_rises of streams n m valid upto =
      let rising =
      All-weaker IsSensibleStream (λ s. parts_below d n s ≤ℤ parts_below d m s) (parts_rise n m upto) streams valid in
      let sums = sum_side-le of (parts_below d n) (parts_below d m) streams rising in
      omega (arith, ints, sums)

  -- strictly where a stream of the side has a part of its range
  pub curve_rises_along : 0 < d → (streams : List Stream) (n m : ℤ) (r : Stream)
      → All IsSensibleStream streams → Contains streams r
      → n <ℤ m → low_parts d r <ℤ m → n <ℤ high_parts d r
      → curve_parts d r.side streams n <ℤ curve_parts d r.side streams m
  curve_rises_along some streams n m r valid member less from upto =
      strictly (curve_parts d r.side streams n) (curve_parts d r.side streams m)
      (curve_rises r.side streams n m valid (omega (arith, ints, less))) (λ same.
      let term = λ (x : ℤ) (s : Stream). if same_side s.side r.side then parts_below d x s else pos 0 in
      let rise = All-weaker IsSensibleStream (λ s. term n s ≤ℤ term m s)
      (λ s h. either (same_side s.side r.side) (parts_rise n m (omega (arith, ints, less)) s h)) streams valid in
      let equal = int_sum_by-equal (term n) (term m) streams rise (omega (arith, ints, same)) in
      let own : parts_below d n r ≡ parts_below d m r
      = rw own_side at (All-contains (λ s. term n s ≡ term m s) streams r equal member) in
      let h = All-contains IsSensibleStream streams r valid member in
      let order = *ℤ-<ℤ_right (pos d) (low_end r) (high_end r) (pos_above d some) (order-sensible r h.sensible) in
      let here = length_parts d n r in
      let there = length_parts d m r in
      let more = product_positive r.cp (there -ℤ here) (omega (arith, ints, h.sensible.cp.from))
      (omega (arith, ints, clamps, from, less, upto, order)) in
      omega (arith, ints, own, more, *ℤ--ℤ r.cp there here))
    where
      either : (b : Bool) {x y : ℤ} → x ≤ℤ y → (if b then x else pos 0) ≤ℤ (if b then y else pos 0)
      either true le = le
      either false le = omega (arith, ints)
