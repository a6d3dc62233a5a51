-- The part of the range above `t` ends where `t` is held within the range.
use Rattle.std.proofs.Common.{ap, arith, rules, w64, ◌∙◌}
use Rattle.stream_case.proofs.Words.{clamps, ints, to_z-of_z, ◌*ℤ◌}
use Rattle.stream_case.proofs.HeatLemmas.{range-length}
use Rattle.stream_case.proofs.stream.Stream.sensible_above.Goals as goal

pub heat_between-requires-clause-within : goal.heat_between-requires-clause-within
heat_between-requires-clause-within c =
    let range = range-length c.args.self.now c.requires in
    omega (arith, ints)

pub returns-clause-value : goal.returns-clause-value
returns-clause-value c =
    to_z-of_z w64 c.heat_between.result (search rules) ∙ c.heat_between.ensures.value
    ∙ ap (λ l. c.args.self.now.cp *ℤ l) (omega (arith, ints, clamps))
