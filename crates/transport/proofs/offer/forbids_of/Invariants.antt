use Rattle.std.proofs.Common.{take}
use Rattle.transport.proofs.Words.{ForbidAlike}
use Rattle.transport.proofs.offer.forbids_of.Given as goal

abbrev pub invariant-loop-forbid : goal.invariant-loop-forbid
invariant-loop-forbid l = ForbidAlike l.side l.source l.forbids.items (take l.forbid-index l.case.forbids)
