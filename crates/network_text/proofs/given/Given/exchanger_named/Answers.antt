use Rattle.network_text.proofs.Tables.{exchanger_named-keys, unnamed}
use Rattle.network_text.proofs.Words.{exchangers_of, few_exchangers, length-map, named_branch, named_sides}
use Rattle.std.proofs.Common.{ap, arith, length, map, sym, ◌∙◌}
use Rattle.network_text.proofs.given.Given.exchanger_named.Goals as goal

pub returns-in_default : goal.returns-in_default
returns-in_default c =
    let none = unnamed _ c.args.name.now c.self.invariant.0.exchanger_names (sym c.in_default.ensures.some) in
    rw (← c.self.view_is) (sym (exchanger_named-keys c.self.inside.tables.exchangers.entries
    (map named_branch c.self.inside.tables.branches.entries) c.self.inside.lines.items c.args.name.now c.self.invariant.0.exchangers_are ∙ none))

pub returns-in_default-get_index_of : goal.returns-in_default-get_index_of
returns-in_default-get_index_of c =
    let found = rw c.in-Some.ensures.value at c.in_default-get_index_of.ensures.index in
    rw (← c.self.view_is) (found ∙ sym
    (exchanger_named-keys c.self.inside.tables.exchangers.entries
    (map named_branch c.self.inside.tables.branches.entries) c.self.inside.lines.items c.args.name.now c.self.invariant.0.exchangers_are))

pub overflow_cast-result : goal.overflow_cast-result
overflow_cast-result c =
    let lines = c.self.inside.lines.items in
    let same = ap length c.self.invariant.0.exchangers_are ∙ length-map (exchangers_of lines) named_sides in
    omega (arith, same, few_exchangers lines, c.self.invariant.0.few_lines, c.in-Some-get_index_of.ensures.within)

pub returns : goal.returns
returns c =
    let found = rw c.in-Some.ensures.value at c.in-Some-get_index_of.ensures.index in
    rw (← c.self.view_is) (found ∙ sym
    (exchanger_named-keys c.self.inside.tables.exchangers.entries
    (map named_branch c.self.inside.tables.branches.entries) c.self.inside.lines.items c.args.name.now c.self.invariant.0.exchangers_are))
