use Rattle.network_audit.proofs.Words.{first_finding, heat_items, heats_in, items_of}
use Rattle.std.proofs.Common.{None, take, ◌≡◌}
use Rattle.network_audit.proofs.utilities.audit_utilities.Given as goal

abbrev pub invariant-loop-index : goal.invariant-loop-index
invariant-loop-index l = record {
  passed : first_finding (items_of (heat_items l.joints) l.utilities l.index) ≡ None;
  kept : take l.index l.heats ≡ heats_in l.joints (take l.index l.utilities);
}
