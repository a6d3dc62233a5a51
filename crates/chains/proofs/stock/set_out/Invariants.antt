use Rattle.chains.proofs.Words.{HaveSetOut}
use Rattle.chains.proofs.stock.set_out.Given as goal

abbrev pub invariant-loop-index : goal.invariant-loop-index
invariant-loop-index l = HaveSetOut l.hots l.links l.flow l.index l.shares.items l.ways.items
