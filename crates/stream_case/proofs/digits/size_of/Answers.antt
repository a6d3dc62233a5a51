use Rattle.stream_case.proofs.DigitLemmas.{fewer_digits}
use Rattle.std.proofs.Common.{IfSome, None, Option, Some, arith, ℕ, ◌<◌, ◌^◌, ◌≤◌}
use Rattle.stream_case.proofs.digits.size_of.Goals as goal

weaker : (o : Option ℕ) (m n : ℕ) → m ≤ n → IfSome o (λ size. size < m) → IfSome o (λ size. size < n)
weaker None m n more small = tt
weaker (Some size) m n more small = omega (arith, more, small)

pub returns-clause-signed : goal.returns-clause-signed
returns-clause-signed c =
    weaker c.natural_of.result (10 ^ c.args.most) (10 ^ 38) (fewer_digits c.args.most 38 c.requires) c.natural_of.ensures.small
