use Rattle.certify.proofs.Words.{Reads, grammar, statements_of}
use Rattle.std.proofs.Common.{length, ◌+◌, ◌≤◌}
use Rattle.certify.proofs.reader.read_report.Given as goal

abbrev pub invariant-loop-rest : goal.invariant-loop-rest
invariant-loop-rest l =
    record {
      reads : Reads grammar (statements_of l.bytes) (statements_of l.rest) l.given l.number;
      few : l.number + length l.rest ≤ 2000000000;
    }

abbrev pub decreases-loop-rest : goal.decreases-loop-rest
decreases-loop-rest l = length l.rest
