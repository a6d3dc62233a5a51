use Rattle.chains.specs.Inner.{IsHeatOf}
use Rattle.grid.specs.declared.part.Part.{Part}
use Rattle.std.proofs.Common.{All, ap, length, pos, subst, subst₂, sym, ◌∙◌, ◌≡◌}
use Rattle.worked_tests.proofs.SpreadNet.{made_flow, made_heat, made_links}
use Rattle.worked_tests.proofs.spread_tests.made_by_hand.Goals as goal

pub returns-clause-heat : goal.returns-clause-heat
returns-clause-heat c =
    let hot = c.from_vec-2.ensures in
    let cold = c.from_vec-3.ensures in
    let links : c.from_vec.result ≡ made_links = c.from_vec.ensures ∙ c.in_ok-links.ensures in
    let flow : c.from_vec-4.result ≡ made_flow = c.from_vec-4.ensures ∙ c.in_ok-flow.ensures in
    subst₂ (λ l f. IsHeatOf c.from_vec-2.result c.from_vec-3.result (record { nodes = 5; links = l }) f) (sym links) (sym flow)
    (made_heat c.from_vec-2.result c.from_vec-3.result (ap length hot ∙ c.in_ok-hot.ensures.two) (ap length cold ∙ c.in_ok-cold.ensures.two)
    (subst (All (λ (p : Part). p.most ≡ pos 100)) (sym hot) c.in_ok-hot.ensures.most)
    (subst (All (λ (p : Part). p.most ≡ pos 100)) (sym cold) c.in_ok-cold.ensures.most))
