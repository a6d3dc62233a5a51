use Rattle.certify.proofs.Words.{All, IsTrue, is_some, transfer_of, transfers_of}
use Rattle.std.proofs.Common.{take, ◌≡◌}
use Rattle.certify.proofs.naming.flow_of.Given as goal

abbrev pub invariant-loop-moved : goal.invariant-loop-moved
invariant-loop-moved l = record {
  known : All (λ m. IsTrue (is_some (transfer_of l.case l.parts.hot l.parts.cold m))) (take l.moved-index l.moves);
  transfers : l.transfers.items ≡ transfers_of l.case l.parts.hot l.parts.cold (take l.moved-index l.moves);
}
