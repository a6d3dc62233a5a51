use Rattle.flow_net.proofs.AdjacencyLemmas.{HasRange-adjacency, IsRange-problem}
use Rattle.flow_net.proofs.problem.Problem.range_from.Goals as goal

pub range_from-requires : goal.range_from-requires
range_from-requires c =
    HasRange-adjacency c.args.self.now.net.now.nodes c.args.self.now.net.now.links c.args.self.now.adjacency
    c.requires.problem.adjacency c.args.node c.requires.node

pub returns : goal.returns
returns c =
    let range = IsRange-problem c.args.self.now c.requires.problem c.args.node c.requires.node in
    rw (c.range_from.ensures.first, c.range_from.ensures.end) range
