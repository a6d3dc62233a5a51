use Rattle.interval_design.proofs.Words.{ints, outside_from_none, within-ratio}
use Rattle.std.proofs.Common.{arith}
use Rattle.interval_design.proofs.exchanges.size_at.Goals as goal

pub unreachable-requires : goal.unreachable-requires
unreachable-requires c =
    let none = c.in_default.ensures.value (omega arith) in
    outside_from_none _ none (within-ratio _ _ (omega arith) (omega (arith, ints)) (omega arith))
