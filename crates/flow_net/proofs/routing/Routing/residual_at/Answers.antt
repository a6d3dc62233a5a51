use Rattle.flow_net.proofs.SentFlow.{no_arc}
use Rattle.flow_net.proofs.ResidualLemmas.{no_residual}
use Rattle.flow_net.proofs.routing.Routing.residual_at.Goals.{After-index}
use Rattle.flow_net.proofs.Words.{IsResidualOf, arc_by_index, get_or_read}
use Rattle.std.proofs.Common.{arith, subst, sym}
use Rattle.flow_net.proofs.routing.Routing.residual_at.Goals as goal

-- what the code reads is the residual arc of the arc
read : (c : After-index)
    → IsResidualOf c.args.problem.now.net.now.links c.args.self.now.flow.items
    (arc_by_index c.args.problem.now c.args.index)
    c.index.result.now
read c =
    let p = c.args.problem.now in
    let r = c.args.self.now in
    let opened = c.requires.standing.opened in
    let read =
    get_or_read r.residuals.items c.args.index c.index.result.now (omega (arith, c.requires.index, opened.one_each))
    c.index.ensures no_residual in
    subst (IsResidualOf p.net.now.links r.flow.items (arc_by_index p c.args.index)) (sym read)
    (opened.each c.args.index c.requires.index)

pub returns-clause-head : goal.returns-clause-head
returns-clause-head c = (read (goal.at.returns-clause-head c).After-index).head

pub returns-clause-cost : goal.returns-clause-cost
returns-clause-cost c = (read (goal.at.returns-clause-cost c).After-index).cost

pub returns-clause-is_open : goal.returns-clause-is_open
returns-clause-is_open c =
    let found = read (goal.at.returns-clause-is_open c).After-index in
    let is = c.requires.standing.problem.adjacency.arcs.arcs_of c.args.index no_arc c.requires.index in
    (λ is_open. record { arc = is; residual = found.is_open.0 is_open }, λ residual. found.is_open.1 residual.residual)
