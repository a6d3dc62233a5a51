use Rattle.flow_net.proofs.QueueLemmas.{next-near}
use Rattle.std.proofs.Common.{refl}
use Rattle.flow_net.proofs.queue.Queue.pop.Goals as goal

pub returns-in-Some : goal.returns-in-Some
returns-in-Some c = next-near c.args.self.now _ c.in-Some.node c.in-Some.ensures.items refl refl
