use Rattle.std.proofs.Common.{FitsSigned, subst, sym, w32}
use Rattle.study.proofs.Words.{IsContribution}
use Rattle.study.proofs.SweepLemmas.{contribution_within, product_fits, product_is, sum_fits, sum_is, value_is}
use Rattle.study.proofs.plan.contribution_at.Goals as goal

pub overflow_mul-result : goal.overflow_mul-result
overflow_mul-result c = subst (FitsSigned w32) (sym (product_is c.args.plan c.args.row c.requires.plan c.requires.row))
    (product_fits c.args.plan c.args.row c.requires.plan c.requires.row)

pub overflow_add-result : goal.overflow_add-result
overflow_add-result c =
    subst (FitsSigned w32) (sym (sum_is c.args.plan c.args.row c.requires.plan c.requires.row)) (sum_fits c.args.plan c.args.row c.requires.plan c.requires.row)

pub returns-clause-value : goal.returns-clause-value
returns-clause-value c = value_is c.args.plan c.args.row c.requires.plan c.requires.row

pub returns-clause-range : goal.returns-clause-range
returns-clause-range c = subst IsContribution (sym (value_is c.args.plan c.args.row c.requires.plan c.requires.row))
    (contribution_within c.args.plan c.args.row c.requires.plan c.requires.row)
