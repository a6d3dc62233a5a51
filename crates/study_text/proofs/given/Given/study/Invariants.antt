use Rattle.std.proofs.Common.{All, length, ◌++◌, ◌≡◌}
use Rattle.study_text.specs.Entries.{IsKnown}
use Rattle.study_text.specs.Given.{items_of}
use Rattle.study_text.proofs.given.Given.study.Given as goal

abbrev pub invariant-loop-entry : goal.invariant-loop-entry
invariant-loop-entry l =
    record { same : l.items ++ items_of l.case l.left ≡ items_of l.case l.self; known : All (IsKnown l.case) l.left }

abbrev pub decreases-loop-entry : goal.decreases-loop-entry
decreases-loop-entry l = length l.left
