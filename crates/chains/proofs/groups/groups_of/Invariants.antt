use Rattle.chains.proofs.GroupLemmas.{HoldsGroups}
use Rattle.chains.proofs.Words.{sources_in}
use Rattle.std.proofs.Common.{take}
use Rattle.chains.proofs.groups.groups_of.Given as goal

abbrev pub invariant-loop-partners : goal.invariant-loop-partners
invariant-loop-partners l =
    HoldsGroups l.case (take l.partners-index (sources_in l.partners-items)) l.first l.nodes l.groups.items
