use Rattle.chains.proofs.Words.{ArePartners}
use Rattle.std.proofs.Common.{take}
use Rattle.chains.proofs.partners.partners_of.Given as goal

abbrev pub invariant-loop-source : goal.invariant-loop-source
invariant-loop-source l = ArePartners l.case (take l.source-index l.hot) l.table.items
