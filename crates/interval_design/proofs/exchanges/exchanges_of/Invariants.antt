use Rattle.interval_design.proofs.Words.{exchange_of}
use Rattle.std.proofs.Common.{map, take, ◌≡◌}
use Rattle.interval_design.proofs.exchanges.exchanges_of.Given as goal

abbrev pub invariant-loop-transfer : goal.invariant-loop-transfer
invariant-loop-transfer l = l.exchanges.items ≡ map (exchange_of l.hot l.cold) (take l.transfer-index l.transfers)
