use Rattle.network_audit.proofs.Words.{Exchanger, joints_among}
use Rattle.std.proofs.Common.{List, [], take, ◌≡◌}
use Rattle.network_audit.proofs.joints.note_passes.Given as goal

abbrev pub invariant-loop-line : goal.invariant-loop-line
invariant-loop-line l =
    (exchangers : List Exchanger) → l.initial.joints ≡ joints_among l.branches [] exchangers
    → l.joints ≡ joints_among l.branches
    (take l.line-index l.lines) exchangers
