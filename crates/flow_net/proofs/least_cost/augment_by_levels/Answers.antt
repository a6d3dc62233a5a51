use Rattle.flow_net.proofs.Sizes.{sizes}
use Rattle.std.proofs.Common.{arith}
use Rattle.flow_net.proofs.Words.{ints}
use Rattle.flow_net.proofs.least_cost.augment_by_levels.Goals as goal

pub loop-routing-smaller : goal.loop-routing-smaller
loop-routing-smaller c = omega (arith, sizes)

pub loop-routing-preserved : goal.loop-routing-preserved
loop-routing-preserved c =
    record { standing = c.augment.ensures.standing; graph = c.in_ok-path.ensures.graph; no_less = omega (arith, ints) }
