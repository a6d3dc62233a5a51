use Rattle.statements.proofs.Words.{YieldsList-at, YieldsList-from_filter, YieldsList-from_slice_split, fields_of, is_blank, is_empty, map_from_collect}
use Rattle.std.proofs.Common.{not, rules, tests}
use Rattle.statements.proofs.statement.fields_in.Goals as goal

pub returns : goal.returns
unfolding fields_of
returns c =
    map_from_collect _ c.collect.ensures.ran (YieldsList-from_filter _ (λ part. not (is_empty part)) (YieldsList-at c.filter.ensures.source
    (YieldsList-from_slice_split _ is_blank c.args.line.now c.split.ensures.rest c.split.ensures.done c.split.ensures.closure
    (λ x r q k. search (rules, tests))))
    c.filter.ensures.closure (λ x r q k. search (rules, tests)))
