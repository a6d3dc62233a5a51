-- The cold target is a heat of streams.
use Rattle.vertical_design.proofs.Words.{Side, cold_target-between, heat_below, ints, sum_side, to_z-of_z}
use Rattle.std.proofs.Common.{ap, arith, rules, w32, ℤ, ◌∙◌}
use Rattle.vertical_design.proofs.curve.heat_at.Goals as goal

pub overflow_add-result : goal.overflow_add-result
overflow_add-result c =
    let target = cold_target-between c.args.streams.now c.requires.streams in
    omega (arith, ints)

pub returns-in-Cold : goal.returns-in-Cold
returns-in-Cold c =
    let streams = c.args.streams.now in
    let t = c.args.t in
    let target = cold_target-between streams c.requires.streams in
    let heat = c.side_heat_below-heat.ensures.value
    ∙ ap (λ (x : ℤ). sum_side c.args.side (heat_below x) streams) (to_z-of_z w32 t (search rules))
    ∙ ap (λ (d : Side). sum_side d (heat_below t) streams) c.in-Cold.is in rw c.in-Cold.is (omega (arith, ints, heat))
