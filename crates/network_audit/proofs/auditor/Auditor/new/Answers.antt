use Rattle.network_audit.proofs.JointLemmas.{passes_below}
use Rattle.network_audit.proofs.auditor.Auditor.new.Goals as goal

pub joints_of-requires : goal.joints_of-requires
joints_of-requires c = passes_below c.args.case.now c.args.network.now c.requires.shape
