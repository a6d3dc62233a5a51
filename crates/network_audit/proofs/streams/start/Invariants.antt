use Rattle.network_audit.proofs.Words.{first_value}
use Rattle.std.proofs.Common.{map, take, ◌≡◌}
use Rattle.network_audit.proofs.streams.start.Given as goal

abbrev pub invariant-loop-index : goal.invariant-loop-index
invariant-loop-index l = take l.index l.values ≡ map first_value (take l.index l.streams)
