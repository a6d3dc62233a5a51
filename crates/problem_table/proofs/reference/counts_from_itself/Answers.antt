-- The deficit above the one reference place is tested.
use Rattle.problem_table.proofs.DeficitLemmas.{Decides-from_itself}
use Rattle.std.proofs.Common.{FitsSigned, rules, w32}
use Rattle.problem_table.proofs.Words.{to_z-of_z}
use Rattle.problem_table.proofs.reference.counts_from_itself.Goals as goal

pub returns : goal.returns
returns c =
    let fits : FitsSigned w32 c.args.place = search rules in
    let tight = rw (to_z-of_z w32 c.args.place fits) at c.is_tight_over.ensures in
    Decides-from_itself c.args.streams.now c.args.place c.is_tight_over.result c.requires.place tight
