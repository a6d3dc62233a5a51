-- The two tests, each for one field.
use Rattle.std.proofs.Common.{sym, w32, ◌∙◌}
use Rattle.problem_table.proofs.Words.{false≢true, to_z-of_z}
use Rattle.problem_table.proofs.pinch.is_inside.Goals as goal

pub returns-then-not-is_below_some : goal.returns-then-not-is_below_some
returns-then-not-is_below_some c =
    let back = to_z-of_z w32 c.args.end c.ranges.end in
    let below = rw back at c.is_below_some.ensures in
    (λ e. absurd (false≢true e), λ inside. sym c.if-not-is_below_some.true ∙ below.1 inside.below_some)

pub returns : goal.returns
returns c =
    let back = to_z-of_z w32 c.args.end c.ranges.end in
    let below = rw back at c.is_below_some.ensures in
    let above = rw back at c.is_above_some.ensures in
    (λ h. record { below_some = below.0 c.if-not-is_below_some.false; above_some = above.0 h }, λ inside. above.1 inside.above_some)
