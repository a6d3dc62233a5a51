use Rattle.std.proofs.Common.{FitsSigned, ap, rules, w64}
use Rattle.study.proofs.Words.{set, to_z-of_z}
use Rattle.study.proofs.priced.prices_with.Goals as goal

pub returns : goal.returns
returns c =
    let fits : FitsSigned w64 c.args.price = search rules in
    rw (to_z-of_z w64 c.args.price fits) (ap (λ xs. set xs c.args.utility c.args.price) c.in_ok-prices.ensures)
