use Rattle.vertical_design.proofs.Words.{ints, outside_from_none, within-ratio}
use Rattle.std.proofs.Common.{arith}
use Rattle.vertical_design.proofs.matches.quotient.Goals as goal

pub unreachable-requires : goal.unreachable-requires
unreachable-requires c = outside_from_none _ (c.in_default.ensures.value (omega (arith, ints)))
    (within-ratio _ _ (omega (arith, ints)) (omega (arith, ints)) (omega (arith, ints)))
