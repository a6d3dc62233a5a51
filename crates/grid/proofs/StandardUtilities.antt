-- Sums over the utilities of a standard case, and the laws of these utilities, passed on.
use Rattle.std.proofs.Common.{List, arith, ◌≡◌}
use Rattle.grid.proofs.Words.{Case, Cold, Hot, IsStandard, Side, Utility, if◌then◌else◌, in_order, int_sum_by, ints, pos, same_side, ℤ}
pub use Rattle.stream_case.proofs.StandardUtilities.{one_utility, own_utility, some_utility, standard_side}

abbrev each_on : Side → ℤ → List Utility → ℤ
each_on side each us = int_sum_by (λ u. if same_side u.side side then each else pos 0) us

pub sum_utilities : (c : Case) → IsStandard c → (side : Side) (each : ℤ) → each_on side each c.utilities ≡ each
sum_utilities c standard Hot each =
    in_order c standard (λ us. each_on Hot each us ≡ each) (omega (arith, ints)) (omega (arith, ints))
sum_utilities c standard Cold each =
    in_order c standard (λ us. each_on Cold each us ≡ each) (omega (arith, ints)) (omega (arith, ints))
