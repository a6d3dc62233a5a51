use Rattle.flow_net.proofs.ArcLemmas.{arc-cost, turned-arc}
use Rattle.flow_net.proofs.SentFlow.{no_arc}
use Rattle.flow_net.proofs.Words.{IsArc}
use Rattle.std.proofs.Common.{subst, sym}
use Rattle.flow_net.proofs.level_graph.LevelGraph.last_arc.Goals as goal

pub turned-arc-requires : goal.turned-arc-requires
turned-arc-requires c = (arc-cost c.args.problem.now.net.now c.requires.standing.problem.net
    _ (c.arcs_from-arcs.ensures.arcs c.loop-index.index no_arc c.loop-index-test.true).0).1

pub is_free-requires-clause-arc : goal.is_free-requires-clause-arc
is_free-requires-clause-arc c =
    let is_arc = (c.arcs_from-arcs.ensures.arcs c.loop-index.index no_arc c.loop-index-test.true).0 in
    subst (IsArc c.args.problem.now.net.now.links) (sym c.turned-arc.ensures)
    (turned-arc c.args.problem.now.net.now.links _ is_arc)
