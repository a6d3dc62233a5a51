use Rattle.network_audit.proofs.Words.{first_finding, items_of, stream_items_at}
use Rattle.std.proofs.Common.{None, ◌≡◌}
use Rattle.network_audit.proofs.streams.audit_streams.Given as goal

abbrev pub invariant-loop-index : goal.invariant-loop-index
invariant-loop-index l = first_finding (items_of (stream_items_at l.network) l.case.streams l.index) ≡ None
