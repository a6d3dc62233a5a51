use Rattle.design_lines.proofs.DrawSteps.{rest_all, splits_all}
use Rattle.std.proofs.Common.{ap, append-nil, arith, length, suc, sym, ◌++◌, ◌∙◌, ◌≡◌}
use Rattle.design_lines.proofs.stage.push_splits.Goals as goal

pub returns-clause-lines : goal.returns-clause-lines
returns-clause-lines c =
    let none = splits_all c.loop-index.free c.loop-index.rest c.args.shares.now c.loop-index.index (omega arith) in
    sym (ap (λ ls. c.loop-index.lines.items ++ ls) none ∙ append-nil c.loop-index.lines.items)
    ∙ c.loop-index.invariant.lines

pub returns-clause-rest : goal.returns-clause-rest
returns-clause-rest c =
    let last : suc c.loop-index.index ≡ length c.args.shares.now = omega arith in
    sym (rest_all c.loop-index.free c.loop-index.rest c.args.shares.now c.loop-index.index last)
    ∙ c.loop-index.invariant.left
