use Rattle.heat_flow.proofs.Words.{IsBetween, Part, pos, slice_get}
use Rattle.std.proofs.Common.{Some, get_or, ℕ, ◌<◌, ◌≡◌}
use Rattle.heat_flow.proofs.check.are_within.Given as goal

abbrev pub invariant-loop-index : goal.invariant-loop-index
invariant-loop-index l =
    (a : ℕ) (p : Part) → a < l.index → slice_get l.parts a ≡ Some p → IsBetween p.least p.most (get_or l.sums a (pos 0))
