use Rattle.std.proofs.Common.{take, ◌++◌, ◌≡◌}
use Rattle.transport.proofs.Words.{links_of_parts}
use Rattle.transport.proofs.net.push_parts.Given as goal

abbrev pub invariant-loop-index : goal.invariant-loop-index
invariant-loop-index l =
    l.links.items ≡ l.initial.links.items ++ links_of_parts l.side l.ends l.first (take l.index l.parts)
