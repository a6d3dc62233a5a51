-- Between two neighbouring cuts of the heat axis the curve of a side is straight: every stream that runs there takes
-- part in all of it.
use Rattle.vertical_design.proofs.Words.{*ℤ-+ℤ, *ℤ-≤ℤ_right, AreSensibleStreams, Contains, HIGHEST_SHIFTED, IsSensibleStream, LOWEST_SHIFTED, Side}
use Rattle.vertical_design.proofs.Words.{Stream, begin_of, clamps, heat_at, high_end, int_le, int_le-false, int_le-from, int_lt_cases, ints, low_end}
use Rattle.vertical_design.proofs.Words.{same_side, sum_side, unsigned_abs, whole, ◌&&◌}
use Rattle.std.proofs.Common.{All, List, ap, arith, get_or, if◌then◌else◌, inl, inr, pos, subst, suc, true, zero, ℕ, ℤ, ⊎_elim, ◌*ℤ◌, ◌+ℤ◌, ◌-ℤ◌}
use Rattle.std.proofs.Common.{◌<ℤ◌, ◌<◌, ◌∙◌, ◌≡◌, ◌≤ℤ◌}
use Rattle.vertical_design.proofs.CurveLemmas.{sum_side-linear, end_of, curve_begins, curve_ends}
use Rattle.vertical_design.proofs.CurveParts.{length_parts, parts_below, curve_parts, scaled, curve_parts-whole, ends_order, curve_rises}
use Rattle.vertical_design.proofs.CurveOrder.{IsOutside}

pub heat_rises : (of : Side) (streams : List Stream) (t u : ℤ) → All IsSensibleStream streams → t ≤ℤ u
    → heat_at of streams t ≤ℤ heat_at of streams u
heat_rises of streams t u valid upto =
    let whole = λ (x : ℤ). curve_parts-whole 1 of streams x (omega arith) valid in
    omega (
      arith,
      ints,
      curve_rises 1 of streams (t *ℤ pos 1) (u *ℤ pos 1) valid (omega (arith, ints, upto)),
      whole t,
      whole u,
    )

-- ---- where a rising number passes two others

module _ (f : ℤ → ℤ) where
  -- a place up to which it is at most c, and behind which it is above
  crossing : (c : ℤ) (n : ℕ) (t : ℤ) → f t ≤ℤ c → c <ℤ f (t +ℤ pos n) → (u : ℤ) × (f u ≤ℤ c) × (c <ℤ f (u +ℤ pos 1))
  crossing c zero t upto above =
      let same = ap f {x = t +ℤ pos 0} {y = t} (omega (arith, ints)) in
      absurd (omega (arith, ints, same, upto, above))
  crossing c (suc n) t upto above =
      let next : t +ℤ pos (suc n) ≡ t +ℤ pos 1 +ℤ pos n = omega (arith, ints) in
      ⊎_elim (λ here. (t, upto, here)) (λ further.
      crossing c n (t +ℤ pos 1) further (subst (λ x. c <ℤ f x) next above)) (int_lt_cases c (f (t +ℤ pos 1)))

  module _ (low high : ℤ) where
    -- the last place with at most the lower number, and the first one with at least the higher one
    pub record IsSegment (begin end : ℤ) : Type 0 where
      pub begin_is : f begin ≤ℤ low
      pub end_is : high ≤ℤ f end
      pub rises : begin <ℤ end
      pub begun : (x : ℤ) → f x ≤ℤ low → x ≤ℤ begin
      pub ended : (x : ℤ) → high ≤ℤ f x → end ≤ℤ x

    module _ (gap : low <ℤ high) (rises : (t u : ℤ) → t ≤ℤ u → f t ≤ℤ f u) where
      apart : (t u : ℤ) → f t ≤ℤ low → high ≤ℤ f u → t <ℤ u
      apart t u from upto =
          ⊎_elim (λ less. less) (λ back. let fall = rises u t back in absurd (omega (arith, ints))) (int_lt_cases t u)

      segment : (t u : ℤ) → f t ≤ℤ low → high ≤ℤ f u → (begin : ℤ) × (end : ℤ) × IsSegment begin end
      segment t u from upto =
          let order = apart t u from upto in
          let n = unsigned_abs (u -ℤ t) in
          let there = ap f {x = t +ℤ pos n} {y = u} (omega (arith, ints)) in
          let (begin, begin_is, behind) = crossing low n t from (omega (arith, ints)) in
          let (last, last_is, end_is) = crossing (high -ℤ pos 1) n t (omega (arith, ints)) (omega (arith, ints)) in
          let end = last +ℤ pos 1 in
          let upto_end : high ≤ℤ f end = omega (arith, ints) in
          let begun : (x : ℤ) → f x ≤ℤ low → x ≤ℤ begin
          = λ x under.
          ⊎_elim (λ far. let rise = rises (begin +ℤ pos 1) x (omega (arith, ints)) in absurd (omega (arith, ints)))
          (λ le. le) (int_lt_cases begin x) in
          let ended : (x : ℤ) → high ≤ℤ f x → end ≤ℤ x
          = λ x above.
          ⊎_elim (λ far. let rise = rises x last (omega (arith, ints)) in absurd (omega (arith, ints))) (λ le. le)
          (int_lt_cases x end) in (
            begin,
            end,
            record {
              begin_is = begin_is;
              end_is = upto_end;
              rises = apart begin end begin_is upto_end;
              begun = begun;
              ended = ended;
            },
          )

-- ---- between two cuts

module _ (of : Side) (streams : List Stream) (are : AreSensibleStreams streams) (low high : ℤ) where
  abbrev heat : ℤ → ℤ
  heat t = heat_at of streams t

  -- no stream of the side begins or ends between the two cuts
  pub record HasNoEnd (s : Stream) : Type 0 where
    pub low_outside : IsOutside low high (heat_at of streams (low_end s))
    pub high_outside : IsOutside low high (heat_at of streams (high_end s))

  abbrev pub HaveNoEnd : Type 0
  HaveNoEnd = All (λ s. same_side s.side of ≡ true → HasNoEnd s) streams

  -- a stream of the side runs from the one to the other
  pub record Runs (r : Stream) : Type 0 where
    pub member : Contains streams r
    pub side_is : same_side r.side of ≡ true
    pub from : heat_at of streams (low_end r) ≤ℤ low
    pub upto : high ≤ℤ heat_at of streams (high_end r)

  -- the flow of a stream that runs between the cuts, and of all of them
  abbrev pub running_flow : Stream → ℤ
  running_flow s =
      if int_le (heat_at of streams (low_end s)) low
      && int_le high (heat_at of streams (high_end s)) then s.cp else pos 0

  abbrev pub flow_running : ℤ
  flow_running = sum_side of running_flow streams

  -- the segment of a gap of the curve
  pub gap_segment : low <ℤ high → begin_of of streams ≤ℤ low → high ≤ℤ end_of of streams
      → (begin : ℤ) × (end : ℤ) × IsSegment (heat_at of streams) low high begin end
  gap_segment gap from upto =
      segment heat low high gap (λ t u. heat_rises of streams t u are.each) LOWEST_SHIFTED HIGHEST_SHIFTED
      (omega (arith, ints, curve_begins of streams are, from)) (omega (arith, ints, curve_ends of streams are, upto))

  module _ (gap : low <ℤ high) (begin end : ℤ) (is : IsSegment (heat_at of streams) low high begin end)
      (none : HaveNoEnd) where
    -- ---- in parts

    module _ (d : ℕ) (some : 0 < d) (m : ℤ) (from : (begin *ℤ pos d) ≤ℤ m) (upto : m ≤ℤ (end *ℤ pos d)) where
      abbrev parts_here : Stream → Type 0
      parts_here s = parts_below d m s ≡ parts_below d (begin *ℤ pos d) s +ℤ running_flow s *ℤ (m -ℤ begin *ℤ pos d)

      stream_line : (s : Stream) → IsSensibleStream s → IsOutside low high (heat (low_end s))
          → IsOutside low high (heat (high_end s)) → parts_here s
      stream_line s h (inl under) (inr over) =
          let one = scaled d (low_end s) begin (is.begun (low_end s) under) in
          let other = scaled d end (high_end s) (is.ended (high_end s) over) in
          let moved : length_parts d m s ≡ length_parts d (begin *ℤ pos d) s +ℤ (m -ℤ begin *ℤ pos d)
          = omega (arith, ints, clamps, one, other, from, upto) in
          rw (int_le-from (heat (low_end s)) low under, int_le-from high (heat (high_end s)) over)
          (ap (λ l. s.cp *ℤ l) moved ∙ *ℤ-+ℤ s.cp (length_parts d (begin *ℤ pos d) s) (m -ℤ begin *ℤ pos d))
      stream_line s h (inl under) (inl before) =
          let one = scaled d (low_end s) begin (is.begun (low_end s) under) in
          let other = scaled d (high_end s) begin (is.begun (high_end s) before) in
          let still : length_parts d m s ≡ length_parts d (begin *ℤ pos d) s
          = omega (arith, ints, clamps, one, other, from) in
          rw (
            int_le-from (heat (low_end s)) low under,
            int_le-false high (heat (high_end s)) (omega (arith, ints, before, gap)),
          )
          (omega (arith, ints, ap (λ l. s.cp *ℤ l) still))
      stream_line s h (inr over) any =
          let one = scaled d end (low_end s) (is.ended (low_end s) over) in
          let still : length_parts d m s ≡ length_parts d (begin *ℤ pos d) s
          = omega (arith, ints, clamps, one, ends_order d s h, from, upto) in
          let not_over = int_le-false (heat (low_end s)) low (omega (arith, ints, over, gap)) in
          rw not_over (omega (arith, ints, ap (λ l. s.cp *ℤ l) still))

      -- the curve rises by the flow of what runs
      pub line : curve_parts d of streams m ≡ heat_at of streams begin *ℤ pos d +ℤ flow_running *ℤ (m -ℤ begin *ℤ pos d)
      line =
          let sums = sum_side-linear of (parts_below d m) (parts_below d (begin *ℤ pos d)) running_flow
          (m -ℤ begin *ℤ pos d) streams (λ k o within own.
          let free = none k o within own in
          stream_line (get_or streams k o) (are.each k o within) free.low_outside free.high_outside) in
          omega (arith, ints, sums, curve_parts-whole d of streams begin some are.each)

    -- something runs
    pub flow_positive : pos 0 <ℤ flow_running
    flow_positive =
        ⊎_elim (λ above. above) (λ upto.
        let all = line 1 (omega arith) (end *ℤ pos 1) (omega (arith, ints, is.rises)) (omega (arith, ints)) in
        let fall =
        *ℤ-≤ℤ_right (end *ℤ pos 1 -ℤ begin *ℤ pos 1) flow_running (pos 0) (omega (arith, ints, is.rises)) upto in
        absurd (omega (
          arith,
          ints,
          all,
          curve_parts-whole 1 of streams end (omega arith) are.each,
          fall,
          is.begin_is,
          is.end_is,
          gap,
        )))
        (int_lt_cases (pos 0) flow_running)
