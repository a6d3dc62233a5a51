use Rattle.chains.proofs.GroupLemmas.{KeptSoFar}
use Rattle.chains.proofs.Words.{HaveSamePartners, sources_in}
use Rattle.chains.proofs.groups.sources_like.Given as goal

abbrev pub invariant-loop-partners : goal.invariant-loop-partners
invariant-loop-partners l =
    KeptSoFar (HaveSamePartners l.case l.first.source) (sources_in l.table) l.partners-index l.sources.items
