use Rattle.case_text.proofs.Sources.{count_on-case, few_with_stream, free_name}
use Rattle.case_text.proofs.Words.{bytes_eq, insert_entry-new}
use Rattle.std.proofs.Common.{refl, sym, ◌∙◌}
use Rattle.case_text.proofs.given.Given.add_stream.Goals as goal

pub invariant_of-self-2 : goal.invariant_of-self-2
invariant_of-self-2 c =
    let new = rw (← c.self.view_is) at (free_name c.args.self.now.rows c.args.name c.requires.0).0 in
    let entries = c.in_ok-insert.ensures.entries
    ∙ insert_entry-new bytes_eq c.self.inside.streams c.args.name c.args.stream new in
    let room = rw (count_on-case c.args.stream.side _ c.args.self.now.rows.streams, ← c.self.view_is) at c.requires.1 in (
      rw entries (few_with_stream c.self.inside.streams.entries c.self.inside.utilities.entries (c.args.name, c.args.stream) c.self.invariant.0 room),
      c.self.invariant.1 ∙ sym c.in_ok-insert.ensures.hasher,
    )

pub returns : goal.returns
returns c =
    let new = rw (← c.self.view_is) at (free_name c.args.self.now.rows c.args.name c.requires.0).0 in
    let entries = c.in_ok-insert.ensures.entries
    ∙ insert_entry-new bytes_eq c.self.inside.streams c.args.name c.args.stream new in
    rw (← c.self.view_is, entries, c.in_ok-insert.ensures.hasher) refl
