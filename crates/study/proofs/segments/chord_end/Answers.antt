use Rattle.std.proofs.Common.{FitsSigned, arith, of_z, refl, rules, subst, subst₂, sym, to_z, w64, ◌∙◌, ◌≡◌}
use Rattle.study.proofs.Words.{All-weaker, CostsWith, IsPointOf, IsSmallPoint, chord_at, ints, pos}
use Rattle.study.proofs.Words.{priced, prices_with, w128, ◌+ℤ◌, ◌-ℤ◌, ◌≤ℤ◌}
use Rattle.study.proofs.ChordBounds.{chord-second}
use Rattle.study.proofs.LeastCosts.{one_cost}
use Rattle.study.proofs.segments.chord_end.Goals as goal

pub loop-off-init : goal.loop-off-init
loop-off-init c =
    let case = c.args.curve.now.curve.case in
    let i = c.args.curve.now.curve.utility in
    let chord = c.args.chord in
    let a = c.requires.chord.small.from.from in
    let b = c.requires.chord.small.from.upto in
    let d = c.requires.last.from in
    let e = c.requires.last.upto in
    let ahead = c.requires.order in
    let second : to_z w64 (of_z w64 (to_z w64 (of_z w64 chord.from) +ℤ pos 1)) ≡ chord.from +ℤ pos 1
    = omega (arith, ints) in
    record {
      ahead = omega (arith, ints);
      order = omega (arith, ints);
      last = omega (arith, ints);
      inside = subst (λ p. CostsWith case i p (chord_at chord p)) (sym second)
          (subst (CostsWith case i (chord.from +ℤ pos 1)) (sym (chord-second chord)) c.requires.chord.next);
      outside = λ h. absurd (omega (arith, ints));
      same = refl;
    }

pub next_price-price-requires-clause-ahead : goal.next_price-price-requires-clause-ahead
next_price-price-requires-clause-ahead c =
    All-weaker (IsPointOf c.loop-off.curve.curve) IsSmallPoint (λ point is. is.small) _ c.ahead.ensures.points

pub loop-off-preserved-then-point-chord_at : goal.loop-off-preserved-then-point-chord_at
loop-off-preserved-then-point-chord_at c =
    let case = c.args.curve.now.curve.case in
    let i = c.args.curve.now.curve.utility in
    let chord = c.args.chord in
    let point = c.in_ok-point.point in
    let on = to_z w64 c.loop-off.on-bits in
    let price = to_z w64 (of_z w64 c.next_price-price.result) in
    let ahead = c.loop-off.invariant.ahead in
    let behind = c.next_price-price.ensures.behind in
    let before = c.next_price-price.ensures.before in
    let fits : FitsSigned w128 point.cost = search rules in
    let chord_fits : FitsSigned w128 c.chord_at.result = search rules in
    let same = c.if-point-chord_at.true in
    let is : point.cost ≡ c.chord_at.result = omega (arith, ints, same) in
    let named = c.in_ok-point.ensures.price in
    let at : point.price ≡ price = omega (arith, ints, named) in
    let least = rw c.loop-off.invariant.same at c.in_ok-point.ensures.point.least in
    record {
      ahead = omega (arith, ints, ahead, behind);
      order = omega (arith, ints, before);
      last = c.loop-off.invariant.last;
      inside = subst₂ (CostsWith case i) at (is ∙ c.chord_at.ensures) least;
      outside = c.loop-off.invariant.outside;
      same = c.in_ok-point.ensures.same ∙ c.loop-off.invariant.same;
    }

pub loop-off-preserved : goal.loop-off-preserved
loop-off-preserved c =
    let case = c.args.curve.now.curve.case in
    let i = c.args.curve.now.curve.utility in
    let chord = c.args.chord in
    let point = c.in_ok-point.point in
    let price = to_z w64 (of_z w64 c.next_price-price.result) in
    let last = c.loop-off.invariant.last in
    let behind = c.next_price-price.ensures.behind in
    let before = c.next_price-price.ensures.before in
    let fits : FitsSigned w128 point.cost = search rules in
    let chord_fits : FitsSigned w128 c.chord_at.result = search rules in
    let other = c.if-point-chord_at.false in
    let named = c.in_ok-point.ensures.price in
    let at : point.price ≡ price = omega (arith, ints, named) in
    let found = rw c.loop-off.invariant.same at c.in_ok-point.ensures.point.least in
    let least = subst (λ p. CostsWith case i p point.cost) at found in
    let apart : point.cost ≡ c.chord_at.result → ⊥ = λ h. absurd (omega (arith, ints, h, other)) in
    record {
      ahead = c.loop-off.invariant.ahead;
      order = omega (arith, ints, behind);
      last = omega (arith, ints, last, before);
      inside = c.loop-off.invariant.inside;
      outside = λ h costs.
          apart (one_cost case (priced (prices_with case i price)) point.cost (chord_at chord price) least costs
          ∙ sym c.chord_at.ensures);
      same = c.in_ok-keep.ensures.same ∙ (c.in_ok-point.ensures.same ∙ c.loop-off.invariant.same);
    }

pub returns-clause-end : goal.returns-clause-end
returns-clause-end c =
    let case = c.args.curve.now.curve.case in
    let i = c.args.curve.now.curve.utility in
    let chord = c.args.chord in
    let on = to_z w64 c.loop-off.on-bits in
    let off = to_z w64 c.loop-off.off-bits in
    let a = c.requires.chord.small.from.from in
    let ahead = c.loop-off.invariant.ahead in
    let order = c.loop-off.invariant.order in
    let last = c.loop-off.invariant.last in
    let d = c.requires.last.from in
    let e = c.requires.last.upto in
    let close : (off -ℤ on) ≤ℤ pos 1 = omega (arith, ints, c.loop-off-test.false) in
    let next : on +ℤ pos 1 ≡ off = omega (arith, ints) in
    record {
      range = record { from = ahead; upto = omega (arith, ints) };
      on = c.loop-off.invariant.inside;
      off =
          λ h costs. c.loop-off.invariant.outside (omega (arith, ints))
          (subst (λ p. CostsWith case i p (chord_at chord p)) next costs);
    }
