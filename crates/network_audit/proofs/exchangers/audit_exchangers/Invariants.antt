use Rattle.network_audit.proofs.Words.{first_finding, items_of, joint_items_at}
use Rattle.std.proofs.Common.{None, ◌≡◌}
use Rattle.network_audit.proofs.exchangers.audit_exchangers.Given as goal

abbrev pub invariant-loop-number : goal.invariant-loop-number
invariant-loop-number l = first_finding (items_of (joint_items_at l.case l.values) l.joints l.number) ≡ None
