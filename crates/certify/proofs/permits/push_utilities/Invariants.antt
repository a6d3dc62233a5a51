use Rattle.certify.proofs.Words.{HavePermits}
use Rattle.std.proofs.Common.{length, ◌+◌, ◌≡◌}
use Rattle.certify.proofs.permits.push_utilities.Given as goal

abbrev pub invariant-loop-number : goal.invariant-loop-number
invariant-loop-number l =
    record { count : length l.rows ≡ length l.case.streams + l.number; each : HavePermits l.case l.rows }
