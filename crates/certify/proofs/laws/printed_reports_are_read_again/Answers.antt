use Rattle.certify.proofs.Printed.{printed-again}
use Rattle.certify.proofs.laws.printed_reports_are_read_again.Goals as goal

pub returns : goal.returns
returns c = printed-again
