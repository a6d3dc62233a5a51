use Rattle.std.proofs.Common.{arith}
use Rattle.study.proofs.Words.{ints}
use Rattle.study.proofs.SweepLemmas.{few_rows, rows_counted}
use Rattle.study.proofs.plan.row_count.Goals as goal

pub returns-clause-rows : goal.returns-clause-rows
returns-clause-rows c =
    let p = c.args.plan in
    let from = c.requires.from in
    let order = c.requires.order in
    let upto = c.requires.upto in
    let least = c.requires.step.from in
    let most = c.requires.step.upto in
    rows_counted p _ _ (omega (arith, ints, from, order, upto)) (omega (arith, ints, least, most)) (omega (arith, ints, least, most))

pub returns-clause-few : goal.returns-clause-few
returns-clause-few c = few_rows c.args.plan _ c.requires (returns-clause-rows c)
