-- A sum of two heats of which one is 0.
use Rattle.curves.proofs.CurveLemmas.{heat_under-between}
use Rattle.std.proofs.Common.{arith, of_z, to_z, w32}
use Rattle.curves.proofs.Words.{ints}
use Rattle.curves.proofs.below.heat_under.Goals as goal

pub returns-clause-range : goal.returns-clause-range
returns-clause-range c =
    let range = heat_under-between c.args.upto_itself (to_z w32 (of_z w32 c.args.t)) c.args.stream.now c.requires in
    record { from = omega (arith, ints); upto = omega (arith, ints) }
