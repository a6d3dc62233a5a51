use Rattle.flow_net.proofs.ResidualLemmas.{AreResiduals-range}
use Rattle.flow_net.proofs.AdjacencyLemmas.{HasRange-adjacency}
use Rattle.flow_net.proofs.Words.{AreResiduals, arcs_at}
use Rattle.std.proofs.Common.{ap, length, slice_index, slice_range, subst, sym, ◌+◌, ◌∙◌}
use Rattle.flow_net.proofs.routing.Routing.residuals_from.Goals as goal

pub residuals_from-requires-clause-range : goal.residuals_from-requires-clause-range
residuals_from-requires-clause-range c =
    let p = c.args.problem.now in
    HasRange-adjacency p.net.now.nodes p.net.now.links p.adjacency c.requires.standing.problem.adjacency c.args.node
    c.requires.node

pub residuals_from-requires-clause-one_each : goal.residuals_from-requires-clause-one_each
residuals_from-requires-clause-one_each c = ap length c.deref.ensures.value ∙ c.requires.standing.opened.one_each

pub returns : goal.returns
returns c =
    let p = c.args.problem.now in
    let r = c.args.self.now in
    let first = p.adjacency.first.items in
    let v = c.args.node in
    let range = HasRange-adjacency p.net.now.nodes p.net.now.links p.adjacency c.requires.standing.problem.adjacency v
    c.requires.node in
    let is_range = c.residuals_from.ensures
    ∙ ap (λ residuals. slice_range residuals (slice_index first v) (slice_index first (v + 1))) c.deref.ensures.value in
    let own_residuals =
    AreResiduals-range p.net.now.links r.flow.items p.adjacency.arcs.items r.residuals.items (slice_index first v)
    (slice_index first (v + 1)) range.rises range.within c.requires.standing.opened in
    subst (AreResiduals p.net.now.links r.flow.items (arcs_at p.adjacency v)) (sym is_range) own_residuals
