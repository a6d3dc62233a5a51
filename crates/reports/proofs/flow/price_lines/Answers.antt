use Rattle.reports.proofs.Words.{Part, blank, price_at, price_line, to_z-of_z}
use Rattle.reports.proofs.TextLemmas.{texts_step}
use Rattle.std.proofs.Common.{FitsSigned, ap, ap₂, get_or, rules, sym, w64, ℕ, ◌++◌, ◌∙◌}
use Rattle.reports.proofs.flow.price_lines.Goals as goal

pub loop-index-preserved : goal.loop-index-preserved
loop-index-preserved c =
    let f = λ (i : ℕ) (p : Part). price_line c.args.names.now c.args.side (price_at c.side_prices-prices.result.now i) p in
    let i = c.loop-index.index in
    let parts = c.parts_of-part-items.result.now in
    let fits : FitsSigned w64 c.number_at.result = search rules in
    let price = to_z-of_z w64 c.number_at.result fits ∙ c.number_at.ensures in
    c.in_ok-push_str.ensures.bytes
    ∙ ap₂ ◌++◌ c.loop-index.invariant
    (c.deref.ensures ∙ c.in_ok-price_line.ensures ∙ ap (λ p. price_line c.args.names.now c.args.side p (get_or parts i blank)) price)
    ∙ sym (texts_step f parts i blank c.loop-index-test.true)
