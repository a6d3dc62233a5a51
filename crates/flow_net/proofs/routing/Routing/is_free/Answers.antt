use Rattle.flow_net.proofs.StandingLemmas.{IsPriced-arc}
use Rattle.std.proofs.Common.{arith}
use Rattle.flow_net.proofs.Words.{ints}
use Rattle.flow_net.proofs.routing.Routing.is_free.Goals as goal

pub reduced_cost-requires : goal.reduced_cost-requires
reduced_cost-requires c =
    IsPriced-arc c.args.problem.now c.args.self.now c.requires.standing c.args.arc.now c.requires.arc

pub returns-then-reduced_cost-eq0 : goal.returns-then-reduced_cost-eq0
returns-then-reduced_cost-eq0 c = (
  λ h. record { residual = c.is_residual.ensures.0 h; free = omega (arith, ints) },
  λ free. c.is_residual.ensures.1 free.residual,
)
