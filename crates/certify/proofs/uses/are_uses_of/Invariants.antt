use Rattle.certify.proofs.Words.{Used, Utility, slice_get, use_of}
use Rattle.std.proofs.Common.{Some, ℕ, ◌<◌, ◌≡◌}
use Rattle.certify.proofs.uses.are_uses_of.Given as goal

abbrev pub invariant-loop-index : goal.invariant-loop-index
invariant-loop-index l =
    (i : ℕ) (used : Used) (u : Utility) → i < l.index → slice_get l.uses i ≡ Some used
    → slice_get l.case.utilities i ≡ Some u
    → used ≡ use_of l.parts.hot l.parts.cold l.transfers i u
