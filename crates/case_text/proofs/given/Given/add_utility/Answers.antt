use Rattle.case_text.proofs.Sources.{free_name}
use Rattle.case_text.proofs.Words.{bytes_eq, insert_entry-new}
use Rattle.std.proofs.Common.{refl, ◌∙◌}
use Rattle.case_text.proofs.given.Given.add_utility.Goals as goal

pub returns : goal.returns
returns c =
    let new = rw (← c.self.view_is) at (free_name c.args.self.now.rows c.args.name c.requires.0).1 in
    let entries = c.in_ok-insert.ensures.entries
    ∙ insert_entry-new bytes_eq c.self.inside.utilities c.args.name c.args.utility new in
    rw (← c.self.view_is, entries) refl
