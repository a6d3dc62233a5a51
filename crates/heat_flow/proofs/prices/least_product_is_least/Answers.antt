use Rattle.heat_flow.proofs.Duality.{least_product-is_least}
use Rattle.heat_flow.proofs.prices.least_product_is_least.Goals as goal

pub returns : goal.returns
returns c = least_product-is_least
