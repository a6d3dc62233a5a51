-- The part of the range below `t` ends where `t` is held within the range.
use Rattle.curves.proofs.CurveLemmas.{actual-length}
use Rattle.std.proofs.Common.{ap, arith, rules, w64, ◌*ℤ◌, ◌∙◌}
use Rattle.curves.proofs.Words.{clamps, ints, to_z-of_z}
use Rattle.curves.proofs.below.sensible_below.Goals as goal

pub heat_between-requires-clause-within : goal.heat_between-requires-clause-within
heat_between-requires-clause-within c =
    let range = actual-length c.args.stream.now c.requires in
    record { from = omega (arith, ints); upto = omega (arith, ints) }

pub returns-clause-value : goal.returns-clause-value
returns-clause-value c =
    to_z-of_z w64 c.heat_between.result (search rules) ∙ c.heat_between.ensures.value
    ∙ ap (λ l. c.args.stream.now.cp *ℤ l) (omega (arith, ints, clamps))
