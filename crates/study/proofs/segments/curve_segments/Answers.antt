use Rattle.std.proofs.Common.{arith, inl, of_z, subst, subst₂, sym, to_z, w64, ◌∙◌, ◌≡◌}
use Rattle.study.proofs.Words.{AreSegments, ints, pos, to_z-of_z, ◌+ℤ◌}
use Rattle.study.proofs.SegmentLemmas.{one_more_segment}
use Rattle.study.proofs.segments.curve_segments.Goals as goal

pub loop-next-smaller : goal.loop-next-smaller
loop-next-smaller c =
    let segment = c.in_ok-segment.segment in
    let is = c.in_ok-segment.ensures.segment in
    let at = c.in_ok-segment.ensures.from in
    let begin = c.in_ok-begin.ensures.price in
    let d = c.requires.span.last.from in
    let e = c.requires.span.last.upto in
    let f = c.requires.span.first.from in
    let g = c.loop-next.invariant.from in
    let h = c.loop-next.invariant.upto in
    omega (arith, ints)

pub loop-next-preserved : goal.loop-next-preserved
loop-next-preserved c =
    let case = c.args.curve.now.curve.case in
    let i = c.args.curve.now.curve.utility in
    let segment = c.in_ok-segment.segment in
    let is = rw (c.in_ok-begin.ensures.same, c.loop-next.invariant.same) at c.in_ok-segment.ensures.segment in
    let from_is = c.in_ok-segment.ensures.from in
    let begin = c.in_ok-begin.ensures.price in
    let at : segment.from ≡ to_z w64 c.loop-next.next-bits = omega (arith, ints, from_is, begin) in
    let d = c.requires.span.last.from in
    let e = c.requires.span.last.upto in
    let f = c.requires.span.first.from in
    let g = c.loop-next.invariant.from in
    let h = c.loop-next.invariant.upto in
    let to = to_z w64 (of_z w64 c.args.to) in
    let from = to_z w64 (of_z w64 c.args.from) in
    let next : segment.to +ℤ pos 1 ≡ to_z w64 (of_z w64 (to_z w64 (of_z w64 segment.to) +ℤ pos 1))
    = omega (arith, ints) in
    record {
      from = omega (arith, ints);
      upto = omega (arith, ints);
      segments = subst₂ (AreSegments case i to from) next (sym c.in_ok-push.ensures.ok)
          (one_more_segment case i to from (to_z w64 c.loop-next.next-bits) c.loop-next.segments segment c.loop-next.invariant.segments at is);
      same = c.in_ok-segment.ensures.same ∙ (c.in_ok-begin.ensures.same ∙ c.loop-next.invariant.same);
    }

pub returns : goal.returns
returns c =
    let case = c.args.curve.now.curve.case in
    let i = c.args.curve.now.curve.utility in
    let upto = c.loop-next.invariant.upto in
    let d = c.requires.span.last.from in
    let e = c.requires.span.last.upto in
    let to_is = to_z-of_z w64 c.args.to c.ranges.to in
    let from_is = to_z-of_z w64 c.args.from c.ranges.from in
    let end : to_z w64 c.loop-next.next-bits ≡ c.args.to +ℤ pos 1 = grind (arith, ints) in
    let segments = c.loop-next.segments in
    let upto_end =
    subst (λ next. AreSegments case i (to_z w64 (of_z w64 c.args.to)) (to_z w64 (of_z w64 c.args.from)) next segments) end
    c.loop-next.invariant.segments in
    inl (subst₂ (λ to from. AreSegments case i to from (c.args.to +ℤ pos 1) segments) to_is from_is upto_end)
