use Rattle.vertical_design.proofs.Words.{ints, ratio, unsigned_abs, w128, ◌*ℤ◌, ◌-ℤ◌}
use Rattle.std.proofs.Common.{ap₂, arith, of_z, subst₂, sym, to_z, w64, ℤ, ◌∙◌, ◌≡◌}
use Rattle.vertical_design.proofs.FlowLimits.{IsFraction, duty-within}
use Rattle.vertical_design.proofs.matches.duty_of.Goals.{After-from-part}
use Rattle.vertical_design.proofs.matches.duty_of.Goals as goal

-- the two products, as the code forms them, and that they are within the limits of a fraction
heat_is : (c : After-from-part) → to_z w128 (of_z w128 c.from-width.result) *ℤ to_z w128 (of_z w128 c.from-part.result)
    ≡ (c.args.gap.high -ℤ c.args.gap.low) *ℤ c.args.share
heat_is c =
    let falls = c.requires.gap.falls in
    let low = c.requires.gap.low_place in
    let high = c.requires.gap.high_place in
    let width : to_z w128 (of_z w128 c.from-width.result) ≡ c.args.gap.high -ℤ c.args.gap.low = omega (arith, ints) in
    let part : to_z w128 (of_z w128 c.from-part.result) ≡ c.args.share = omega (arith, ints) in
    ap₂ ◌*ℤ◌ width part

flows_are : (c : After-from-part)
    → to_z w64 (of_z w64 c.args.gap.hot) *ℤ to_z w64 (of_z w64 c.args.gap.cold) ≡ c.args.gap.hot *ℤ c.args.gap.cold
flows_are c =
    let hot_range = c.requires.hot in
    let cold_range = c.requires.cold in
    let hot : to_z w64 (of_z w64 c.args.gap.hot) ≡ c.args.gap.hot = omega (arith, ints) in
    let cold : to_z w64 (of_z w64 c.args.gap.cold) ≡ c.args.gap.cold = omega (arith, ints) in
    ap₂ ◌*ℤ◌ hot cold

formed : (c : After-from-part)
    → IsFraction (to_z w128 (of_z w128 c.from-width.result) *ℤ to_z w128 (of_z w128 c.from-part.result))
    (to_z w64 (of_z w64 c.args.gap.hot) *ℤ to_z w64 (of_z w64 c.args.gap.cold))
formed c =
    let gap = c.args.gap in
    subst₂ IsFraction (sym (heat_is c)) (sym (flows_are c))
    (duty-within gap.low gap.high c.args.share gap.hot gap.cold c.requires.gap
    (omega (arith, ints, c.requires.share.from)) c.requires.share.upto c.requires.hot c.requires.cold)

pub overflow_mul-heat : goal.overflow_mul-heat
overflow_mul-heat c =
    let d = formed (goal.at.overflow_mul-heat c).After-from-part in
    omega (arith, ints, d.num_above, d.num_upto)

pub overflow_mul-flows : goal.overflow_mul-flows
overflow_mul-flows c =
    let d = formed (goal.at.overflow_mul-flows c).After-from-part in
    omega (arith, ints, d.den_from, d.den_upto)

pub quotient-requires-clause-above : goal.quotient-requires-clause-above
quotient-requires-clause-above c =
    let d = formed (goal.at.quotient-requires-clause-above c).After-from-part in
    omega (arith, ints, d.den_from, d.den_upto)

pub quotient-requires-clause-den : goal.quotient-requires-clause-den
quotient-requires-clause-den c =
    let d = formed (goal.at.quotient-requires-clause-den c).After-from-part in
    omega (arith, ints, d.den_from, d.den_upto)

pub quotient-requires-clause-num : goal.quotient-requires-clause-num
quotient-requires-clause-num c =
    let d = formed (goal.at.quotient-requires-clause-num c).After-from-part in
    omega (arith, ints, d.num_above, d.num_upto)

pub returns : goal.returns
returns c =
    let gap = c.args.gap in
    let before = (goal.at.returns c).After-from-part in
    let d = formed before in
    let num : to_z w128
    (of_z w128 (to_z w128 (of_z w128 c.from-width.result) *ℤ to_z w128 (of_z w128 c.from-part.result)))
    ≡ (gap.high -ℤ gap.low) *ℤ c.args.share
    = omega (arith, ints, heat_is before, d.num_above, d.num_upto) in
    let den : to_z w64 (of_z w64 (to_z w64 (of_z w64 gap.hot) *ℤ to_z w64 (of_z w64 gap.cold))) ≡ gap.hot *ℤ gap.cold =
    omega (arith, ints, flows_are before, d.den_from, d.den_upto) in c.quotient.ensures
    ∙ ap₂ (λ (n m : ℤ). ratio n (unsigned_abs m)) num den
