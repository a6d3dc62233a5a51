use Rattle.std.proofs.Common.{arith, pos, ◌+◌}
use Rattle.transport.proofs.Words.{ints}
use Rattle.transport.proofs.LoopLemmas.{price_push}
use Rattle.transport.proofs.prices.prices_of.Goals as goal

pub loop-index-preserved : goal.loop-index-preserved
loop-index-preserved c =
    let i = c.loop-index.index in
    let here = c.requires.bounded (c.args.first + i) (pos 0) (omega (arith, c.loop-index-test.true, c.requires.nodes)) in
    let there = c.requires.bounded c.args.end (pos 0) c.requires.end in
    price_push c.args.potentials.now c.args.first i c.args.end c.loop-index.prices.items _ _ c.in_ok-push.ensures.items c.loop-index.invariant
    (omega (arith, ints, here.from, here.upto, there.from, there.upto))
