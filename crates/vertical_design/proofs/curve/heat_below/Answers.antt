-- The part of the range below `t` ends where `t` is held within the range.
use Rattle.std.proofs.Common.{ap, arith, rules, w64, ◌∙◌}
use Rattle.vertical_design.proofs.Words.{AreEnds-IsValidStream, clamps, ints, range-length, to_z-of_z, ◌*ℤ◌}
use Rattle.vertical_design.proofs.curve.heat_below.Goals as goal

pub heat_between-requires-clause-within : goal.heat_between-requires-clause-within
heat_between-requires-clause-within c =
    let range = range-length c.args.stream.now c.requires in
    let ends = AreEnds-IsValidStream c.args.stream.now c.requires in
    record { from = omega (arith, ints); upto = omega (arith, ints) }

pub returns-clause-value : goal.returns-clause-value
returns-clause-value c =
    let ends = AreEnds-IsValidStream c.args.stream.now c.requires in
    to_z-of_z w64 c.heat_between.result (search rules) ∙ c.heat_between.ensures.value
    ∙ ap (λ l. c.args.stream.now.cp *ℤ l) (omega (arith, ints, clamps))
