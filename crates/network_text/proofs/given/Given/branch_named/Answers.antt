use Rattle.network_text.proofs.Tables.{branch_named-keys, unnamed}
use Rattle.std.proofs.Common.{sym, ◌∙◌}
use Rattle.network_text.proofs.given.Given.branch_named.Goals as goal

pub returns-in_default : goal.returns-in_default
returns-in_default c =
    let none = unnamed _ c.args.name.now c.self.invariant.0.branch_names (sym c.in_default.ensures.some) in
    rw (← c.self.view_is) (sym (branch_named-keys c.self.inside.tables.branches.entries c.self.inside.lines.items c.args.name.now ∙ none))

pub returns-in_default-get_index_of : goal.returns-in_default-get_index_of
returns-in_default-get_index_of c =
    let found = rw c.in-Some.ensures.value at c.in_default-get_index_of.ensures.index in
    rw (← c.self.view_is) (found ∙ sym (branch_named-keys c.self.inside.tables.branches.entries c.self.inside.lines.items c.args.name.now))

pub returns : goal.returns
returns c =
    let found = rw c.in-Some.ensures.value at c.in-Some-get_index_of.ensures.index in
    rw (← c.self.view_is) (found ∙ sym (branch_named-keys c.self.inside.tables.branches.entries c.self.inside.lines.items c.args.name.now))
