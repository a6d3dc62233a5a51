use Rattle.certify.proofs.Words.{Holds256, bytes_of_parts}
use Rattle.std.proofs.Common.{take}
use Rattle.certify.proofs.part_table.key_of.Given as goal

abbrev pub invariant-loop-part : goal.invariant-loop-part
invariant-loop-part l = Holds256 l.digest (bytes_of_parts l.case (take l.part-index l.parts))
