use Rattle.std.proofs.Common.{subst, sym}
use Rattle.std.specs.Prelude.{All}
use Rattle.study_text.specs.Entries.{IsKnown}
use Rattle.study_text.proofs.Accepted.{accepted-fits}
use Rattle.study_text.proofs.reader.study_of.Goals as goal

pub study-requires : goal.study-requires
study-requires c =
    let case = c.args.case.now in
    let given = c.in_ok-number.ensures in
    subst (All (IsKnown case)) (sym given.given) (accepted-fits case c.args.rows.now given.sound).known
