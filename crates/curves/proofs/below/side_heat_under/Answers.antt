-- A stream of the side adds its heat.
use Rattle.curves.proofs.CurveLemmas.{heat_under-between}
use Rattle.curves.proofs.below.side_heat_under.Goals.{else-is_on, then-is_on}
use Rattle.curves.proofs.Words.{heat_under, ints, sum_side-more, sum_side-so_far}
use Rattle.std.proofs.Common.{Bool, ap, arith, if◌then◌else◌, of_z, pos, sym, to_z, w32, ◌∙◌}
use Rattle.curves.proofs.below.side_heat_under.Goals as goal

pub overflow_add-heat : goal.overflow_add-heat
overflow_add-heat c =
    let t = to_z w32 (of_z w32 c.args.t) in
    let heat = heat_under c.args.upto_itself t in
    let within = heat_under-between c.args.upto_itself t in
    let so_far = sum_side-so_far c.args.side heat within c.args.streams.now c.loop-stream.stream-index c.requires in
    omega (arith, ints)

pub loop-stream-preserved : goal.loop-stream-preserved
loop-stream-preserved c =
    let t = to_z w32 (of_z w32 c.args.t) in
    let heat = heat_under c.args.upto_itself t in
    let within = heat_under-between c.args.upto_itself t in
    let s = c.stream-item.result in
    let so_far = sum_side-so_far c.args.side heat within c.args.streams.now c.loop-stream.stream-index c.requires in
    let step = sum_side-more c.args.side heat c.args.streams.now c.loop-stream.stream-index s c.loop-stream-test.true c.stream-item.is in
    let term = λ (b : Bool). if b then heat s else pos 0 in
    elim c.if-is_on.branch [
      | then-is_on w ↦
          let added = ap term (sym c.is_on.ensures ∙ w.if-is_on.true) in
          omega (arith, ints)
      | else-is_on w ↦
          let added = ap term (sym c.is_on.ensures ∙ w.if-is_on.false) in
          omega (arith, ints)
    ]

pub returns-clause-range : goal.returns-clause-range
returns-clause-range c =
    let t = to_z w32 (of_z w32 c.args.t) in
    let heat = heat_under c.args.upto_itself t in
    let within = heat_under-between c.args.upto_itself t in
    let so_far = sum_side-so_far c.args.side heat within c.args.streams.now c.loop-stream.stream-index c.requires in
    record { from = omega (arith, ints); upto = omega (arith, ints) }
