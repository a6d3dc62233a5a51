use Rattle.std.proofs.Common.{refl}
use Rattle.heat_flow.proofs.check.is_heat_flow.Goals as goal

pub returns-then-keeps_ranges : goal.returns-then-keeps_ranges
returns-then-keeps_ranges g c =
    let all = c.if-not-are_transfers.ensures.0 refl in (
      λ e. record {
        positive = λ k d within. (all k d within).positive;
        hot_indexes = λ k d within. (all k d within).hot_index;
        cold_indexes = λ k d within. (all k d within).cold_index;
        joined = λ k d within. (all k d within).joined;
        ordered = c.if-not-are_ordered.ensures.0 refl;
        hot_ranges = rw c.as_slice.ensures at (c.if-keeps_ranges.ensures.0 refl);
        cold_ranges = rw c.as_slice-then-keeps_ranges.ensures at (c.keeps_ranges-then-keeps_ranges.ensures.0 e);
      },
      λ flow. c.keeps_ranges-then-keeps_ranges.ensures.1 (rw c.as_slice-then-keeps_ranges.ensures flow.cold_ranges),
    )
