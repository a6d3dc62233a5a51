use Rattle.std.proofs.Common.{FitsSigned, arith, of_z, rules, subst, sym, to_z}
use Rattle.std.proofs.lemmas.Int.{clamps, quot_fits}
use Rattle.study.proofs.Words.{IsGap, IsWithin, ints, pos, to_z-of_z, w128, ℤ, ◌*ℤ◌, ◌-ℤ◌, ◌<ℤ◌}
use Rattle.study.proofs.ChordBounds.{gap-times}
use Rattle.study.proofs.chords.prices_back.Goals as goal

module _ (run gap : ℤ) (way : IsWithin (pos 2000000) run) (is : IsGap gap) where
  product_fits : FitsSigned w128 (run *ℤ gap)
  product_fits =
      let all = gap-times run gap way is in
      let low = all.from in
      let high = all.upto in
      omega (arith, ints)

  less_fits : FitsSigned w128 (to_z w128 (of_z w128 (run *ℤ gap)) -ℤ pos 1)
  less_fits =
      let all = gap-times run gap way is in
      let low = all.from in
      let high = all.upto in
      let whole = to_z-of_z w128 (run *ℤ gap) product_fits in omega (arith, ints, whole)

  back_fits : FitsSigned w128 (to_z w128 (of_z w128 (to_z w128 (of_z w128 (run *ℤ gap)) -ℤ pos 1)))
  back_fits =
      subst (FitsSigned w128) (sym (to_z-of_z w128 (to_z w128 (of_z w128 (run *ℤ gap)) -ℤ pos 1) less_fits)) less_fits

pub overflow_mul-result : goal.overflow_mul-result
overflow_mul-result c =
    let a = c.requires.near.price.from in
    let b = c.requires.near.price.upto in
    let d = c.requires.far.price.from in
    let e = c.requires.far.price.upto in
    let low = c.gap-near_gap.ensures.from in
    let high = c.gap-near_gap.ensures.upto in
    product_fits (to_z w128 (of_z w128 c.from-run.result)) (to_z w128 (of_z w128 c.gap-near_gap.result))
    (record { from = omega (arith, ints); upto = omega (arith, ints) }) (record { from = omega (arith, ints); upto = omega (arith, ints) })

pub overflow_sub-result : goal.overflow_sub-result
overflow_sub-result c =
    let a = c.requires.near.price.from in
    let b = c.requires.near.price.upto in
    let d = c.requires.far.price.from in
    let e = c.requires.far.price.upto in
    let low = c.gap-near_gap.ensures.from in
    let high = c.gap-near_gap.ensures.upto in
    less_fits (to_z w128 (of_z w128 c.from-run.result)) (to_z w128 (of_z w128 c.gap-near_gap.result))
    (record { from = omega (arith, ints); upto = omega (arith, ints) }) (record { from = omega (arith, ints); upto = omega (arith, ints) })

pub nonzero_div-result : goal.nonzero_div-result
nonzero_div-result c =
    let a = c.requires.near.price.from in
    let b = c.requires.near.price.upto in
    let d = c.requires.far.price.from in
    let e = c.requires.far.price.upto in
    let low = c.gap-near_gap.ensures.from in
    let high = c.gap-near_gap.ensures.upto in
    let most = c.max.ensures.value in
    let fits : FitsSigned w128 c.max.result = search rules in
    let is = to_z-of_z w128 c.max.result fits in
    let one : pos 0 <ℤ c.max.result = omega (arith, ints, clamps, most) in (
      omega (arith, ints, one),
      quot_fits w128 _ (to_z w128 (of_z w128 c.max.result))
          (back_fits (to_z w128 (of_z w128 c.from-run.result)) (to_z w128 (of_z w128 c.gap-near_gap.result))
          (record { from = omega (arith, ints); upto = omega (arith, ints) }) (record { from = omega (arith, ints); upto = omega (arith, ints) }))
          (subst (λ z. pos 0 <ℤ z) (sym is) one),
    )
