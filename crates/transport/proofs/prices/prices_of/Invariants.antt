use Rattle.std.proofs.Common.{◌≡◌}
use Rattle.transport.proofs.Words.{prices_of}
use Rattle.transport.proofs.prices.prices_of.Given as goal

abbrev pub invariant-loop-index : goal.invariant-loop-index
invariant-loop-index l = l.prices.items ≡ prices_of l.potentials l.first l.index l.end
