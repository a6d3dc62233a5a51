use Rattle.fractions.proofs.Euclid.{steps_left}
use Rattle.std.proofs.Common.{ℕ}
use Rattle.fractions.proofs.Words.{IsGcd}
use Rattle.fractions.proofs.divisor.gcd.Given as goal

abbrev pub invariant-loop-y : goal.invariant-loop-y
invariant-loop-y l = (g : ℕ) → IsGcd l.x l.y g → IsGcd l.fn.a l.fn.b g

abbrev pub decreases-loop-y : goal.decreases-loop-y
decreases-loop-y l = steps_left l.x l.y
