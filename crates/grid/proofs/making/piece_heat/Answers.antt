-- The sum of two heats of which one is 0.
use Rattle.std.proofs.Common.{FitsSigned, ap₂, arith, of_z, refl, rules, to_z, w32, w64, ◌∙◌, ◌≡◌}
use Rattle.grid.proofs.Words.{IsSensibleHeat, IsStreamHeat, heat_between, ints, load-between, to_z-of_z, ℤ, ◌+ℤ◌}
use Rattle.grid.proofs.making.piece_heat.Goals as goal

sum-is : (sensible between load total : ℤ) → sensible ≡ between → IsSensibleHeat sensible → IsStreamHeat load
    → between +ℤ load ≡ total
    → to_z w64 (of_z w64 (to_z w64 (of_z w64 sensible) +ℤ to_z w64 (of_z w64 load))) ≡ total
sum-is sensible between load total is range some sum = omega (arith, ints)

pub returns : goal.returns
returns c =
    let s = c.args.stream.now in
    let high = c.args.high in
    let low = c.args.low in
    let high_fits : FitsSigned w32 high = search rules in
    let low_fits : FitsSigned w32 low = search rules in
    let read = ap₂ (λ h l. heat_between h l s) (to_z-of_z w32 high high_fits) (to_z-of_z w32 low low_fits) in
    let value = c.heat_between.ensures.value ∙ read in
    sum-is c.heat_between.result (heat_between high low s) s.load _ value c.heat_between.ensures.range
    (load-between s c.requires.valid.heat) refl
