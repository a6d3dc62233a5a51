use Rattle.chains.proofs.StrideLemmas.{links_within}
use Rattle.chains.proofs.Words.{STRIDES, onward}
use Rattle.std.proofs.Common.{drop, ◌++◌, ◌≡◌}
use Rattle.chains.proofs.links.push_onward.Given as goal

abbrev pub invariant-loop-stride : goal.invariant-loop-stride
invariant-loop-stride l =
    l.links.items ++ links_within l.group.first_node l.nodes l.room (drop l.stride-index STRIDES)
    ≡ l.initial.links.items ++ onward l.group.first_node l.nodes l.initial.room
