use Rattle.heat_flow.proofs.CheckLemmas.{AllPairsBelow-more}
use Rattle.std.proofs.Common.{arith, ◌-◌, ◌<◌}
use Rattle.heat_flow.proofs.Words.{get_or_default}
use Rattle.heat_flow.proofs.cut_check.are_rising.Goals as goal

pub loop-i-preserved : goal.loop-i-preserved
loop-i-preserved c =
    let xs = c.args.members.now in
    let i = c.loop-i.i in
    let from = c.loop-i.auto.i in
    let within = c.loop-i-test.true in
    AllPairsBelow-more (λ a b. a < b) (λ a b d h k. omega (arith, h, k)) xs i from c.loop-i.invariant
    (λ d. omega (arith, get_or_default xs (i - 1) 0 d (omega arith), get_or_default xs i 0 d within))
