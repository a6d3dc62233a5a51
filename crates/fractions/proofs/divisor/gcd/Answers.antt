use Rattle.fractions.proofs.Euclid.{steps_left-decreases}
use Rattle.std.proofs.Common.{arith}
use Rattle.fractions.proofs.Words.{IsGcd, IsGcd-from_mod, IsGcd-from_zero, pos_of_dvd_of_pos}
use Rattle.fractions.proofs.divisor.gcd.Goals as goal

pub loop-y-preserved : goal.loop-y-preserved
loop-y-preserved c = λ g is. c.loop-y.invariant g (IsGcd-from_mod _ _ g is)

pub loop-y-smaller : goal.loop-y-smaller
loop-y-smaller c = steps_left-decreases c.loop-y.x c.loop-y.y (omega arith)

pub returns : goal.returns
returns c =
    let is : IsGcd c.args.a c.args.b c.loop-y.x = c.loop-y.invariant _ (IsGcd-from_zero _ _ (omega arith)) in
    record { divisor = is; positive = pos_of_dvd_of_pos is.1 }
