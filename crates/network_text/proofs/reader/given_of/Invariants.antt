use Rattle.network_text.proofs.Words.{MOST_STATEMENTS, Reads, grammar, keyed_by, statements_of}
use Rattle.std.proofs.Common.{length, ◌≡◌, ◌≤◌}
use Rattle.network_text.proofs.reader.given_of.Given as goal

abbrev pub invariant-loop-rest : goal.invariant-loop-rest
invariant-loop-rest l = record {
  reads : Reads (grammar l.case) (statements_of l.bytes) (statements_of l.rest) l.given.network l.number;
  key : l.given.key ≡ keyed_by l.bytes;
  count : length l.given.network.lines ≡ l.number;
  few : l.number ≤ MOST_STATEMENTS;
}

abbrev pub decreases-loop-rest : goal.decreases-loop-rest
decreases-loop-rest l = length l.rest
