use Rattle.network_text.proofs.Tables.{stream_at-entry, stream_at-none}
use Rattle.std.proofs.Common.{sym}
use Rattle.network_text.proofs.given.Given.stream_of.Goals as goal

pub returns-in-Some : goal.returns-in-Some
returns-in-Some c = rw (← c.self.view_is)
    (sym (stream_at-entry c.self.inside.tables.branches.entries c.args.number (c.in-Some.field-0-0.now, c.in-Some.stream.now) (sym c.in-Some.ensures.entry)))

pub returns-in-None : goal.returns-in-None
returns-in-None c =
    rw (← c.self.view_is) (sym (stream_at-none c.self.inside.tables.branches.entries c.args.number (sym c.in-None.ensures.entry)))
