use Rattle.heat_flow.proofs.Words.{ArePermissions}
use Rattle.std.proofs.Common.{take}
use Rattle.heat_flow.proofs.cells.forbid_matches.Given as goal

abbrev pub invariant-loop-forbid : goal.invariant-loop-forbid
invariant-loop-forbid l = ArePermissions l.case (take l.forbid-index l.forbids) l.hot l.allowed
