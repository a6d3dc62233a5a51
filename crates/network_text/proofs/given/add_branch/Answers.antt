use Rattle.network_text.proofs.Tables.{new_entry}
use Rattle.std.proofs.Common.{◌∙◌}
use Rattle.network_text.proofs.given.add_branch.Goals as goal

pub returns-clause-added : goal.returns-clause-added
returns-clause-added c = c.in_ok-insert.ensures.entries ∙ new_entry c.args.branches.now c.args.name c.args.stream c.requires
