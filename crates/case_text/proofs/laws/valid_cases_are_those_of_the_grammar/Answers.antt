use Rattle.case_text.proofs.Accepted.{case-is_valid}
use Rattle.case_text.proofs.Printed.Text.{text_back}
use Rattle.case_text.proofs.laws.valid_cases_are_those_of_the_grammar.Goals as goal

pub returns-clause-valid : goal.returns-clause-valid
returns-clause-valid c = case-is_valid

pub returns-clause-given : goal.returns-clause-given
returns-clause-given c = text_back
