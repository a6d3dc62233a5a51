use Rattle.std.proofs.Common.{take, ◌≡◌}
use Rattle.stream_case.proofs.Words.{AllDigits, digits_value}
use Rattle.stream_case.proofs.digits.natural_of.Given as goal

abbrev pub invariant-loop-digit : goal.invariant-loop-digit
invariant-loop-digit l =
    record { digits : AllDigits 10 (take l.digit-index l.text); value : l.number ≡ digits_value 10 (take l.digit-index l.text) }
