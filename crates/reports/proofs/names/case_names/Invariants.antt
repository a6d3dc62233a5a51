use Rattle.std.proofs.Common.{map, take, ◌≡◌}
use Rattle.reports.proofs.names.case_names.Given as goal

abbrev pub invariant-loop-utility : goal.invariant-loop-utility
invariant-loop-utility l = l.utilities ≡ map (λ u. u.name) (take l.utility-index l.utility-items)
