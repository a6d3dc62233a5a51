use Rattle.network_audit.proofs.WalkLemmas.{IsWalked}
use Rattle.network_audit.proofs.walk.audit_statements.Given as goal

abbrev pub invariant-loop-index : goal.invariant-loop-index
invariant-loop-index l = IsWalked l.case l.network l.index l.made l.values
