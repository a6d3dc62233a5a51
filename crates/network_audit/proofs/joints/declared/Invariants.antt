use Rattle.network_audit.proofs.Words.{Branch, exchangers_of, joints_among}
use Rattle.std.proofs.Common.{List, [], take, ◌≡◌}
use Rattle.network_audit.proofs.joints.declared.Given as goal

abbrev pub invariant-loop-line : goal.invariant-loop-line
invariant-loop-line l =
    (branches : List Branch) → l.joints.items ≡ joints_among branches [] (exchangers_of (take l.line-index l.lines))
