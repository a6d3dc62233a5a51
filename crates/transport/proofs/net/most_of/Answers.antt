use Rattle.transport.proofs.Words.{blank, int_sum_by-more, ints}
use Rattle.std.proofs.Common.{arith, get_or}
use Rattle.transport.proofs.net.most_of.Goals as goal

pub loop-part-preserved : goal.loop-part-preserved
loop-part-preserved c =
    let i = c.loop-part.part-index in
    let within = c.loop-part-test.true in
    let p = get_or c.args.parts.now i blank in
    let bounded = c.requires.bounded i blank within in
    let least = bounded.least.from in
    let order = bounded.most.from in
    let most = bounded.most.upto in
    let more = int_sum_by-more (λ q. q.most) c.args.parts.now i blank within in
    let sum = c.loop-part.invariant.sum in
    let from = c.loop-part.invariant.from in
    let upto = c.loop-part.invariant.upto in
    let few = c.requires.few in
    record {
      sum = omega (arith, ints, more, sum, from, upto, least, order, most);
      from = omega (arith, ints, from, upto, least, order, most);
      upto = omega (arith, ints, from, upto, least, order, most);
    }
