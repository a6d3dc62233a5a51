-- The table has few parts, and their reach is the site's.
use Rattle.site.proofs.TargetLemmas.{few_pairs, of_table, parts_of}
use Rattle.site.proofs.target.table_target.Goals as goal

pub least-requires-clause-few : goal.least-requires-clause-few
least-requires-clause-few c =
    let is = c.requires.table in
    let table = c.args.table.now in
    rw (is.sizes.hots, is.sizes.colds) (few_pairs c.args.site.now c.requires.valid table.parts.hot table.parts.cold (parts_of c.args.site.now table is))

pub returns : goal.returns
returns c = of_table c.args.site.now c.args.table.now c.requires.table c.least.result c.least.ensures
