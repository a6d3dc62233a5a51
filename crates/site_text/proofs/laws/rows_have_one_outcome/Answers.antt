use Rattle.site_text.proofs.Words.{fault_or_value, grammar, no_value, one_fault, one_value}
use Rattle.site_text.proofs.laws.rows_have_one_outcome.Goals as goal

pub returns : goal.returns
returns c =
    record { some = fault_or_value grammar; fault = one_fault grammar; apart = no_value grammar; site = one_value grammar }
