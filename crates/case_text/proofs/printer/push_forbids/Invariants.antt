use Rattle.case_text.proofs.Words.{flat_map, forbid_row, row_text}
use Rattle.std.proofs.Common.{take, ◌++◌, ◌≡◌}
use Rattle.case_text.proofs.printer.push_forbids.Given as goal

abbrev pub invariant-loop-forbid : goal.invariant-loop-forbid
invariant-loop-forbid l =
    l.text.items ≡ l.initial.text.items ++ flat_map (λ x. row_text (forbid_row l.case x)) (take l.forbid-index l.forbids)
