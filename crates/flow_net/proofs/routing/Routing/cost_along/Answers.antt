use Rattle.flow_net.proofs.Sizes.{sizes}
use Rattle.std.proofs.Common.{arith, pos}
use Rattle.flow_net.proofs.Words.{get_or_read}
use Rattle.flow_net.proofs.routing.Routing.cost_along.Goals as goal

pub returns : goal.returns
returns c =
    let potentials = c.args.self.now.potentials.items in
    let at_tail = get_or_read potentials c.args.node c.index.result.now c.requires.tail_in c.index.ensures (pos 0) in
    let at_head =
    get_or_read potentials c.args.residual.now.head c.index-2.result.now c.requires.head_in c.index-2.ensures (pos 0) in
    omega (arith, sizes, c.requires.cost, c.requires.at_tail, c.requires.at_head)
