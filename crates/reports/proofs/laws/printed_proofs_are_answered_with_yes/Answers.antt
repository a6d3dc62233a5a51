use Rattle.reports.proofs.ProofTexts.{proofs-pass}
use Rattle.reports.proofs.laws.printed_proofs_are_answered_with_yes.Goals as goal

pub returns : goal.returns
returns c = proofs-pass
