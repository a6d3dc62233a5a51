use Rattle.std.proofs.Common.{arith}
use Rattle.site.proofs.Words.{clamps, ints}
use Rattle.site.proofs.profiles.raised.Goals as goal

pub returns-then-is_beyond-clause-range : goal.returns-then-is_beyond-clause-range
returns-then-is_beyond-clause-range c = omega (arith, ints, clamps)
