use Rattle.flow_net.proofs.Words.{IsBottleneck}
use Rattle.std.proofs.Common.{take}
use Rattle.flow_net.proofs.routing.Routing.bottleneck.Given as goal

abbrev pub invariant-loop-arc : goal.invariant-loop-arc
invariant-loop-arc l = IsBottleneck l.problem l.self (take l.arc-index l.path) l.least
