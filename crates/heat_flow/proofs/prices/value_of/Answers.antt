use Rattle.heat_flow.proofs.Duality.{weak_duality}
use Rattle.heat_flow.proofs.prices.value_of.Goals as goal

pub returns-clause-weak_duality : goal.returns-clause-weak_duality
returns-clause-weak_duality c =
    λ reach. weak_duality reach c.args.parts.now.hot c.args.parts.now.cold c.args.prices.now.hot c.args.prices.now.cold
