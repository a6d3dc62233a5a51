-- A sum of two heats of which one is 0.
use Rattle.std.proofs.Common.{arith, of_z, to_z, w32}
use Rattle.stream_case.proofs.Words.{ints}
use Rattle.stream_case.proofs.HeatLemmas.{heat_over-between}
use Rattle.stream_case.proofs.stream.Stream.heat_over.Goals as goal

pub returns-clause-range : goal.returns-clause-range
returns-clause-range c =
    let range = heat_over-between c.args.from_itself (to_z w32 (of_z w32 c.args.t)) c.args.self.now c.requires in
    omega (arith, ints)
