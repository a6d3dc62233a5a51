use Rattle.certify.proofs.Table.{added, kept}
use Rattle.std.proofs.Common.{sym, ◌∙◌}
use Rattle.certify.proofs.part_table.add_span.Goals as goal

pub returns-then-contains_key-clause-added : goal.returns-then-contains_key-clause-added
returns-then-contains_key-clause-added c =
    kept c.args.span c.args.index c.args.table.now (sym c.contains_key.ensures ∙ c.if-contains_key.true)

pub returns-clause-added : goal.returns-clause-added
returns-clause-added c =
    added c.args.span c.args.index c.args.table.now c.insert.new.self (sym c.contains_key.ensures ∙ c.if-contains_key.false)
    c.in_ok-insert.ensures.updates
