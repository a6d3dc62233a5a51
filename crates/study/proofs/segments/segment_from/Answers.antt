use Rattle.std.proofs.Common.{FitsSigned, arith, refl, rules, subst₂, sym, w64, ◌∙◌, ◌≡◌}
use Rattle.study.proofs.Words.{CostsWith, IsChordEnd, ints, to_z-of_z, w128, ◌<ℤ◌}
use Rattle.study.proofs.SegmentLemmas.{segment-last, segment-of_chord}
use Rattle.study.proofs.segments.segment_from.Goals as goal

pub returns-then-first-to-clause-segment : goal.returns-then-first-to-clause-segment
returns-then-first-to-clause-segment c =
    let case = c.args.curve.now.curve.case in
    let i = c.args.curve.now.curve.utility in
    let first = c.args.first in
    let fits : FitsSigned w128 first.cost = search rules in
    let price_fits : FitsSigned w64 first.price = search rules in
    let same = c.if-first-to.true in
    let is : first.price ≡ c.args.to = omega (arith, ints, same) in
    let at = to_z-of_z w64 c.args.to c.ranges.to in
    segment-last case i c.args.to _ (subst₂ (CostsWith case i) is (sym (to_z-of_z w128 first.cost fits)) c.requires.first.least) at at refl

pub returns-clause-segment : goal.returns-clause-segment
returns-clause-segment c =
    let case = c.args.curve.now.curve.case in
    let i = c.args.curve.now.curve.utility in
    let chord = c.in_ok-chord.chord in
    let from = c.in_ok-chord.ensures.from in
    let ahead : chord.from <ℤ c.args.to = omega (arith, ints, from, c.requires.order, c.if-first-to.false) in
    let is = c.in_ok-chord.ensures.chord in
    let end_fits : FitsSigned w64 c.in_ok-end.end = search rules in
    let cost_fits : FitsSigned w128 c.chord_at.result = search rules in
    let from_fits : FitsSigned w64 chord.from = search rules in
    let slope_fits : FitsSigned w128 chord.slope = search rules in
    let to_is = to_z-of_z w64 c.args.to c.ranges.to in
    let end_is = to_z-of_z w64 c.in_ok-end.end end_fits in
    let found = rw c.in_ok-chord.ensures.same at c.in_ok-end.ensures.end in
    let ends = subst₂ (IsChordEnd case i chord) to_is (sym end_is) found in
    segment-of_chord case i chord c.args.to _ c.requires.utility is ends ahead
    (to_z-of_z w64 chord.from from_fits)
    (to_z-of_z w128 c.chord_at.result cost_fits ∙ c.chord_at.ensures) (to_z-of_z w128 chord.slope slope_fits)
