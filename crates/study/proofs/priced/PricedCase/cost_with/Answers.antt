use Rattle.std.proofs.Common.{FitsSigned, rules, subst, sym, w64, ◌∙◌}
use Rattle.study.proofs.Words.{All, IsPrice, prices_with, to_z-of_z}
use Rattle.study.proofs.PartBounds.{prices-within}
use Rattle.study.proofs.priced.PricedCase.cost_with.Goals as goal

pub cost_at-requires-clause-prices : goal.cost_at-requires-clause-prices
cost_at-requires-clause-prices c =
    let case = c.args.self.now.case.now in
    let i = c.args.utility in
    let price = c.args.price in
    let fits : FitsSigned w64 price = search rules in
    let within = subst (λ p. All IsPrice (prices_with case i p)) (sym (to_z-of_z w64 price fits))
    (prices-within case c.requires.priced.complete i price c.requires.price) in
    subst (All IsPrice) (sym (c.as_slice.ensures.value ∙ c.in_ok-prices.ensures)) within
