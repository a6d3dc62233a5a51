use Rattle.certify.proofs.Words.{All, IsTrue, filter_map, index_of, is_some}
use Rattle.std.proofs.Common.{take, ◌≡◌}
use Rattle.certify.proofs.naming.members_of.Given as goal

abbrev pub invariant-loop-span : goal.invariant-loop-span
invariant-loop-span l = record {
  known : All (λ s. IsTrue (is_some (index_of l.case l.parts s))) (take l.span-index l.spans);
  members : l.members.items ≡ filter_map (index_of l.case l.parts) (take l.span-index l.spans);
}
