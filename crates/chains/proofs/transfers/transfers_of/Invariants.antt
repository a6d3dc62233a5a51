use Rattle.chains.proofs.Words.{AreGathered}
use Rattle.std.proofs.Common.{take}
use Rattle.chains.proofs.transfers.transfers_of.Given as goal

abbrev pub invariant-loop-share : goal.invariant-loop-share
invariant-loop-share l = AreGathered l.hots (take l.share-index l.share-items) l.transfers.items
