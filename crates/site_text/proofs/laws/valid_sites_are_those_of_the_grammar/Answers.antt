use Rattle.site_text.proofs.Accepted.{site-is_valid}
use Rattle.site_text.proofs.PrintedText.{text_back}
use Rattle.site_text.proofs.laws.valid_sites_are_those_of_the_grammar.Goals as goal

pub returns-clause-valid : goal.returns-clause-valid
returns-clause-valid c = site-is_valid

pub returns-clause-given : goal.returns-clause-given
returns-clause-given c = text_back
