use Rattle.rows.proofs.Records.{read_gives, read_left, ready}
use Rattle.rows.proofs.row_reader.Rows.read.Goals as goal

pub invariant_of-self-2 : goal.invariant_of-self-2
invariant_of-self-2 c =
    let gives = c.self.invariant c.if-self.false in
    let e = c.in-Ok.ensures in
    read_gives _ _ c.in-Ok.found _ gives (e.reads gives.trim (ready _ gives)) (e.ready gives.trim) e.flexible

pub returns-clause-found : goal.returns-clause-found
returns-clause-found c =
    let gives = c.self.invariant c.if-self.false in
    let e = c.in-Ok.ensures in
    rw (← c.self.view_is, c.if-self.false)
    (read_left c.self.inside.reader c.read_byte_record.new.self c.in-Ok.found _ gives (e.reads gives.trim (ready _ gives)) (e.ready gives.trim) e.flexible)
