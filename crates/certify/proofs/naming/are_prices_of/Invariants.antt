use Rattle.certify.proofs.Words.{Part, Priced, slice_get, span_of}
use Rattle.std.proofs.Common.{Some, ℕ, ◌<◌, ◌≡◌}
use Rattle.certify.proofs.naming.are_prices_of.Given as goal

abbrev pub invariant-loop-index : goal.invariant-loop-index
invariant-loop-index l =
    (i : ℕ) (g : Priced) (p : Part) → i < l.index → slice_get l.prices i ≡ Some g → slice_get l.parts i ≡ Some p
    → g.part ≡ span_of l.case p
