-- Prices times heats stay within their limits.
use Rattle.heat_flow.proofs.Words.{IsHeat, IsWithin, MOST_HEAT, ints, negsuc, pos, product_within, ℤ, ◌*ℤ◌}
use Rattle.std.proofs.Common.{arith}

pub product_range : (most price heat : ℤ) → IsWithin most price → IsHeat heat
    → IsWithin (most *ℤ MOST_HEAT) (price *ℤ heat)
product_range (pos n) price heat h k =
    let bound = product_within price heat n _ h.from h.upto k.from k.upto in
    record { from = bound.0; upto = bound.1 }
product_range (negsuc n) price heat h k =
    let from = h.from in
    let upto = h.upto in
    absurd (omega (arith, ints))
