use Rattle.network_audit.proofs.FormedLemmas.{no_finding}
use Rattle.network_audit.proofs.ValidLemmas.{invalid_network, valid_network}
use Rattle.network_audit.proofs.laws.findings_tell_what_is_valid.Goals as goal

pub returns-clause-valid : goal.returns-clause-valid
returns-clause-valid c = valid_network

pub returns-clause-invalid : goal.returns-clause-invalid
returns-clause-invalid c = invalid_network

pub returns-clause-formed : goal.returns-clause-formed
returns-clause-formed c = no_finding
