use Rattle.std.proofs.Common.{FitsSigned, arith, of_z, rules, subst, subst₂, sym, to_z, w64, ◌≡◌}
use Rattle.study.proofs.Words.{CostsWith, IsCost, IsPrice, ints, pos, to_z-of_z, w128, ◌+ℤ◌, ◌-ℤ◌}
use Rattle.study.proofs.ChordBounds.{chord_of}
use Rattle.study.proofs.segments.chord_from.Goals as goal

pub returns-clause-chord : goal.returns-clause-chord
returns-clause-chord c =
    let case = c.args.curve.now.curve.case in
    let i = c.args.curve.now.curve.utility in
    let first = c.args.first in
    let next = c.in_ok-next.next in
    let price_fits : FitsSigned w64 first.price = search rules in
    let fits : FitsSigned w128 first.cost = search rules in
    let price_is = to_z-of_z w64 first.price price_fits in
    let cost_is = to_z-of_z w128 first.cost fits in
    let a = c.requires.first.small.cost.from in
    let b = c.requires.first.small.cost.upto in
    let d = c.in_ok-next.ensures.point.small.cost.from in
    let e = c.in_ok-next.ensures.point.small.cost.upto in
    let low = c.requires.next.from in
    let high = c.requires.next.upto in
    let at = c.in_ok-next.ensures.price in
    let slope : to_z w128 (of_z w128 (to_z w128 (of_z w128 next.cost) -ℤ to_z w128 (of_z w128 first.cost)))
    ≡ next.cost -ℤ to_z w128 (of_z w128 first.cost)
    =
    omega (arith, ints) in
    let behind : next.price ≡ to_z w64 (of_z w64 first.price) +ℤ pos 1 = omega (arith, ints, at) in
    chord_of case i _ next.cost (subst IsPrice (sym price_is) c.requires.first.small.price)
    (subst IsCost (sym cost_is) c.requires.first.small.cost)
    c.in_ok-next.ensures.point.small.cost slope (subst₂ (CostsWith case i) (sym price_is) (sym cost_is) c.requires.first.least)
    (subst (λ p. CostsWith case i p next.cost) behind c.in_ok-next.ensures.point.least)
