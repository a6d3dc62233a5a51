use Rattle.std.proofs.Common.{take, ◌≡◌}
use Rattle.transport.proofs.Words.{members_of}
use Rattle.transport.proofs.cut.members_of.Given as goal

abbrev pub invariant-loop-index : goal.invariant-loop-index
invariant-loop-index l = l.members.items ≡ members_of l.kind l.first l.reached (take l.index l.parts)
