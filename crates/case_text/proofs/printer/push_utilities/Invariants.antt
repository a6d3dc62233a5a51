use Rattle.case_text.proofs.Words.{flat_map, row_text, utility_row}
use Rattle.std.proofs.Common.{take, ◌++◌, ◌≡◌}
use Rattle.case_text.proofs.printer.push_utilities.Given as goal

abbrev pub invariant-loop-utility : goal.invariant-loop-utility
invariant-loop-utility l =
    l.text.items ≡ l.initial.text.items ++ flat_map (λ x. row_text (utility_row l.case x)) (take l.utility-index l.utilities)
