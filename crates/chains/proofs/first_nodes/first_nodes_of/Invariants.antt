use Rattle.chains.proofs.Words.{first_node_of, range_with_len, source_at}
use Rattle.std.proofs.Common.{map, ◌≡◌}
use Rattle.chains.proofs.first_nodes.first_nodes_of.Given as goal

abbrev pub invariant-loop-index : goal.invariant-loop-index
invariant-loop-index l =
    l.nodes.items ≡ map (λ index. first_node_of l.groups (source_at l.case index)) (range_with_len 0 l.index)
