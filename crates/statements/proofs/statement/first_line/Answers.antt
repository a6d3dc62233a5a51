use Rattle.statements.proofs.LineCuts.{first_of_more, last_alone}
use Rattle.std.proofs.Common.{sym, ◌+◌}
use Rattle.statements.proofs.Words.{take_rest}
use Rattle.statements.proofs.statement.first_line.Goals as goal

pub returns-in_default-clause-line : goal.returns-in_default-clause-line
returns-in_default-clause-line c = last_alone c.args.text.now c.requires (sym c.in_default.ensures)

pub returns-clause-line : goal.returns-clause-line
returns-clause-line c =
    let cut = first_of_more c.args.text.now c.in-Some.end (sym c.in-Some.ensures) in
    rw (take_rest c.args.text.now (c.in-Some.end + 1), c.without_return.ensures) cut
