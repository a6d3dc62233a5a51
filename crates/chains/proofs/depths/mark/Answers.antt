-- One rank more is marked.
use Rattle.chains.proofs.DepthLemmas.{marked-more}
use Rattle.chains.proofs.Words.{or-false}
use Rattle.std.proofs.Common.{arith, false, get_or, sym}
use Rattle.chains.proofs.depths.mark.Goals as goal

pub loop-rank-init : goal.loop-rank-init
loop-rank-init c = λ k within. sym (or-false (get_or c.args.used.now k false))

pub loop-rank-preserved : goal.loop-rank-preserved
loop-rank-preserved c =
    let i = c.loop-rank.rank-index in
    marked-more c.args.used.now c.loop-rank.used c.args.ranks.now i c.loop-rank-test.true
    (let within = c.requires i 0 c.loop-rank-test.true in omega (arith, within)) c.loop-rank.invariant
