use Rattle.case_text.proofs.Sources.{is_taken-case}
use Rattle.std.proofs.Common.{rules}
use Rattle.case_text.proofs.given.Given.has_name.Goals as goal

pub returns-then-contains_key : goal.returns-then-contains_key
returns-then-contains_key c = rw (is_taken-case, ← c.self.view_is) (search rules)

pub returns-else-contains_key : goal.returns-else-contains_key
returns-else-contains_key c = rw (is_taken-case, ← c.self.view_is) (search rules)
