use Rattle.flow_net.proofs.AdjacencyLemmas.{HasRange-adjacency, arcs_at-arcs, arcs_at-complete}
use Rattle.flow_net.proofs.Words.{All, Contains, IsArc}
use Rattle.std.proofs.Common.{subst, sym, ◌≡◌}
use Rattle.flow_net.proofs.problem.Problem.arcs_from.Goals as goal

pub arcs_from-requires : goal.arcs_from-requires
arcs_from-requires c =
    HasRange-adjacency c.args.self.now.net.now.nodes c.args.self.now.net.now.links c.args.self.now.adjacency
    c.requires.problem.adjacency c.args.node c.requires.node

pub returns-clause-arcs : goal.returns-clause-arcs
returns-clause-arcs c =
    let p = c.args.self.now in
    subst (All (λ a. IsArc p.net.now.links a × (a.tail ≡ c.args.node))) (sym c.arcs_from.ensures)
    (arcs_at-arcs p.net.now.nodes p.net.now.links p.adjacency c.requires.problem.adjacency c.args.node c.requires.node)

pub returns-clause-complete : goal.returns-clause-complete
returns-clause-complete c =
    λ a is tail.
    let p = c.args.self.now in
    let among = arcs_at-complete p.net.now.nodes p.net.now.links p.adjacency c.requires.problem.adjacency c.args.node
    c.requires.node a is tail in
    subst (λ xs. Contains xs a) (sym c.arcs_from.ensures) among
