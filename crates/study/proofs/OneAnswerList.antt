-- A study has one list of answers.
use Rattle.study.proofs.Words.{All-slice_get, AreSegments, AreSpanSegments, Case, Cost, CostsWith, HasNoFlowAt}
use Rattle.study.proofs.Words.{IsBetween, IsItem, IsItemAnswer, IsSegment, OneAnswer, Scenario, Segment, Segments, Span}
use Rattle.study.proofs.Words.{StudyAnswer, StudyItem, by_lt_z, ints, on_line, pos, priced, prices_with, same_lists}
use Rattle.study.proofs.Words.{slice_get-get_or, ℤ, ◌*ℤ◌, ◌+ℤ◌, ◌≤ℤ◌}
use Rattle.std.proofs.Common.{List, ap, ap₂, arith, get_or, inl, inr, refl, subst, sym, ℕ, [], ◌∙◌, ◌∷◌, ◌≡◌}
use Rattle.study.proofs.LeastCosts.{never_both, one_cost, one_option}
use Rattle.study.proofs.SegmentLemmas.{next_on_line}

same_fields : (s t : Segment) → s.from ≡ t.from → s.to ≡ t.to → s.base ≡ t.base → s.slope ≡ t.slope → s ≡ t
same_fields s t a b d e = λ k. record { from = a k; to = b k; base = d k; slope = e k }

module _ (c : Case) (i : ℕ) (to : ℤ) where
  -- two segments from one price
  module _ (s t : Segment) (at : s.from ≡ t.from) (one : IsSegment c i to s) (two : IsSegment c i to t) where
    both_on : (p : ℤ) → CostsWith c i p (on_line s p) → CostsWith c i p (on_line t p) → on_line s p ≡ on_line t p
    both_on p = one_cost c (priced (prices_with c i p)) (on_line s p) (on_line t p)

    same_first : on_line s s.from ≡ on_line t s.from
    same_first =
        let from = one.end.from in
        let other = two.end.from in
        both_on s.from (one.line s.from (record { from = omega (arith, ints); upto = from }))
        (two.line s.from (record { from = omega (arith, ints); upto = omega (arith, ints) }))

    same_slope : s.slope ≡ t.slope
    same_slope =
        let from = one.end.from in
        let upto = one.end.upto in
        let first = same_first in
        by_lt_z s.from to (λ ahead.
        let there =
        subst (λ p. CostsWith c i (p +ℤ pos 1) (on_line t (p +ℤ pos 1))) (sym at) (two.slope (omega (arith, ints))) in
        let next = both_on (s.from +ℤ pos 1) (one.slope ahead) there in
        let rise = next_on_line s s.from in
        let other = next_on_line t s.from in
        omega (arith, ints)) (λ last.
        let flat = one.flat (omega (arith, ints)) in
        let other = two.flat (omega (arith, ints)) in
        omega (arith, ints))

    same_base : s.base ≡ t.base
    same_base =
        let product = ap (λ slope. s.from *ℤ slope) same_slope in
        let first = same_first in
        omega (arith, ints)

    no_shorter : t.to ≤ℤ s.to
    no_shorter = by_lt_z s.to t.to (λ shorter.
        let p = s.to +ℤ pos 1 in
        let from = one.end.from in
        let upto = two.end.upto in
        let line : on_line t p ≡ on_line s p
        = sym (ap₂ (λ base slope. base +ℤ p *ℤ slope) same_base same_slope) in
        absurd (one.greatest (omega (arith, ints)) (subst (CostsWith c i p) line (two.line p (omega (arith, ints)))))) (λ h. h)

  same_segment : (s t : Segment) → s.from ≡ t.from → IsSegment c i to s → IsSegment c i to t → s ≡ t
  same_segment s t at one two =
      let up = no_shorter s t at one two in
      let down = no_shorter t s (sym at) two one in
      same_fields s t at (omega (arith, ints)) (same_base s t at one two) (same_slope s t at one two)

  same_segments : (from : ℤ) (xs ys : List Segment) → AreSegments c i to from (to +ℤ pos 1) xs
      → AreSegments c i to from (to +ℤ pos 1) ys → xs ≡ ys
  same_segments from [] [] one two = refl
  same_segments from [] (t ∷ ts) one (at, here, rest) =
      let a = here.end.from in
      let b = here.end.upto in
      absurd (omega (arith, ints))
  same_segments from (s ∷ ss) [] (at, here, rest) two =
      let a = here.end.from in
      let b = here.end.upto in
      absurd (omega (arith, ints))
  same_segments from (s ∷ ss) (t ∷ ts) (at, here, rest) (there, other, others) =
      let is = same_segment s t (at ∙ sym there) here other in
      let ends = ap (λ (r : Segment). r.to +ℤ pos 1) is in
      ap₂ (λ x xs. x ∷ xs) is
      (same_segments (s.to +ℤ pos 1) ss ts rest (subst (λ p. AreSegments c i to p (to +ℤ pos 1) ts) (sym ends) others))

  -- segments say what the first price costs
  first_cost : (from : ℤ) (segments : List Segment) → from ≤ℤ to → AreSegments c i to from (to +ℤ pos 1) segments
      → (cost : ℤ) × CostsWith c i from cost
  first_cost from [] order are = absurd (omega (arith, ints))
  first_cost from (s ∷ segments) order (at, here, rest) =
      let low = here.end.from in
      let first = here.line s.from (record { from = omega (arith, ints); upto = low }) in
      (on_line s from, subst (λ p. CostsWith c i p (on_line s p)) at first)

  -- a case with segments has a heat flow
  never_empty : (from : ℤ) (segments : List Segment) → from ≤ℤ to → AreSegments c i to from (to +ℤ pos 1) segments
      → ((p : ℤ) → IsBetween from to p → HasNoFlowAt c (prices_with c i p)) → ⊥
  never_empty from segments order are none =
      let (cost, costs) = first_cost from segments order are in
      never_both c (priced (prices_with c i from)) cost costs (none from (record { from = omega (arith, ints); upto = order }))

one_span : (c : Case) (i : ℕ) (from to : ℤ) (xs ys : List Segment) → from ≤ℤ to
    → AreSpanSegments c i from to xs → AreSpanSegments c i from to ys → xs ≡ ys
one_span c i from to xs ys order (inl are) (inl too) = same_segments c i to from xs ys are too
one_span c i from to xs ys order (inl are) (inr (empty, none)) = absurd (never_empty c i to from xs order are none)
one_span c i from to xs ys order (inr (empty, none)) (inl too) = absurd (never_empty c i to from ys order too none)
one_span c i from to xs ys order (inr (empty, none)) (inr (too, others)) = empty ∙ sym too

-- ---- answers

one_item : (c : Case) (item : StudyItem) (answer other : StudyAnswer) → IsItem c item
    → IsItemAnswer c item answer → IsItemAnswer c item other → answer ≡ other
one_item c (Scenario name prices) (Cost x) (Cost y) is one two = ap Cost (one_option c (priced prices) x y one two)
one_item c (Scenario name prices) (Cost x) (Segments ys) is one two = absurd two
one_item c (Scenario name prices) (Segments xs) other is one two = absurd one
one_item c (Span i from to) (Segments xs) (Segments ys) is one two =
    ap Segments (one_span c i from to xs ys is.order one two)
one_item c (Span i from to) (Segments xs) (Cost y) is one two = absurd two
one_item c (Span i from to) (Cost x) other is one two = absurd one

pub one_answer_list : (c : Case) → OneAnswer c
one_answer_list c study answers others is one two =
    same_lists answers others (one.as_many ∙ sym two.as_many) (λ k d within.
    let item = get_or study.items k (Span 0 (pos 0) (pos 0)) in
    let here = slice_get-get_or study.items k (Span 0 (pos 0) (pos 0)) (omega (arith, within, one.as_many)) in
    one_item c item (get_or answers k d) (get_or others k d) (All-slice_get (IsItem c) study.items k item is.items here)
    (one.each k (get_or answers k d) (slice_get-get_or answers k d within) item here)
    (two.each k (get_or others k d) (slice_get-get_or others k d (omega (arith, within, one.as_many, two.as_many))) item here))
