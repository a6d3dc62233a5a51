use Rattle.transport.proofs.Words.{IfOk-weaker, IsAnswer, IsHeatOf, PathsAreReaches, priced}
use Rattle.std.proofs.Common.{Bool, length, subst, sym, ℕ, ◌≡◌}
use Rattle.transport.proofs.InnerFlow.{IsHeatOf-front, IsSpread-whole}
use Rattle.transport.proofs.RoutedHeat.{IsRoutedHeat, answered, each_potential, has_cost}
use Rattle.transport.proofs.AroundLimits.{IsAround-parts, IsFullRouting}
use Rattle.transport.proofs.least_cost.routed.Goals.{In_ok-front, In_ok-heat}
use Rattle.transport.proofs.least_cost.routed.Goals as goal

full : (c : In_ok-front)
    → IsFullRouting c.args.parts.now.hot c.args.parts.now.cold c.args.chains.now.net c.args.flow.now
full c = record {
  around =
      IsAround-parts c.args.parts.now c.args.chains.now.net c.requires.inner c.requires.few_nodes c.requires.few_links;
  routing = c.requires.routes.routing;
}

-- its transfers are a heat flow, whichever pairs its paths are
heat_of : (c : In_ok-heat) (reach : ℕ → ℕ → Bool)
    → PathsAreReaches (length c.args.parts.now.hot) (length c.args.parts.now.cold) c.args.chains.now.net.links reach
    → IsRoutedHeat c.args.parts.now.hot c.args.parts.now.cold c.args.chains.now.net reach c.args.flow.now c.args.potentials.now c.in_ok-heat.heat
heat_of c reach paths =
    let whole = full (goal.at.In_ok-heat c).In_ok-front in
    record {
      around = whole.around;
      paths = paths;
      routes = c.requires.routes;
      spread =
          IsSpread-whole whole c.in_ok-heat.heat.transfers (rw (c.in_ok-front.ensures, c.len.ensures) at c.in_ok-heat.ensures);
    }

pub spread-requires-clause-heat : goal.spread-requires-clause-heat
spread-requires-clause-heat c =
    let front = rw c.len.ensures at c.in_ok-front.ensures in
    subst (IsHeatOf c.args.parts.now.hot c.args.parts.now.cold c.args.chains.now.net) (sym front)
    (IsHeatOf-front (full (goal.at.spread-requires-clause-heat c).In_ok-front))

pub priced-requires-clause-bounded : goal.priced-requires-clause-bounded
priced-requires-clause-bounded c =
    each_potential (heat_of (goal.at.priced-requires-clause-bounded c).In_ok-heat c.requires.paths.0 c.requires.paths.1)

pub priced-requires-clause-has_cost : goal.priced-requires-clause-has_cost
priced-requires-clause-has_cost c =
    has_cost (heat_of (goal.at.priced-requires-clause-has_cost c).In_ok-heat c.requires.paths.0 c.requires.paths.1)

pub returns : goal.returns
returns c =
    let hot = c.args.parts.now.hot in
    let cold = c.args.parts.now.cold in
    let links = c.args.chains.now.net.links in
    IfOk-weaker c.priced.result (λ a. a ≡ priced hot cold c.args.chains.now.net.nodes c.args.potentials.now c.in_ok-heat.heat)
    (λ a. (reach : ℕ → ℕ → Bool) → PathsAreReaches (length hot) (length cold) links reach → IsAnswer reach hot cold a)
    (λ a is reach paths. subst (IsAnswer reach hot cold) (sym is) (answered (heat_of (goal.at.returns c).In_ok-heat reach paths))) c.priced.ensures
