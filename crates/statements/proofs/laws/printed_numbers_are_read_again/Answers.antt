use Rattle.statements.proofs.PlainNumbers.{number_plain}
use Rattle.stream_case.proofs.DigitLemmas.{IsOfDigits-short, integer_read}
use Rattle.statements.proofs.laws.printed_numbers_are_read_again.Goals as goal

pub returns-clause-plain : goal.returns-clause-plain
returns-clause-plain c = λ most z of. number_plain z (IsOfDigits-short most z of)

pub returns-clause-again : goal.returns-clause-again
returns-clause-again c = integer_read
