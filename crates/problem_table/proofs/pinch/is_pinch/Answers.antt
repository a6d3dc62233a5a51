-- The two tests, each for one field.
use Rattle.problem_table.proofs.Words.{IsInside, false≢true, to_z-of_z}
use Rattle.std.proofs.Common.{Contains, List, subst, sym, w32, ℤ, ◌∙◌}
use Rattle.problem_table.proofs.pinch.is_pinch.Goals as goal

pub returns-then-not-is_inside : goal.returns-then-not-is_inside
returns-then-not-is_inside c =
    let back = to_z-of_z w32 c.args.end c.ranges.end in
    let inside = rw back at c.is_inside.ensures in
    let Inside = λ (xs : List ℤ). IsInside xs c.args.end in
    (λ e. absurd (false≢true e), λ pinch. sym c.if-not-is_inside.true ∙ inside.1 (subst Inside (sym c.requires.ends) pinch.inside))

pub returns : goal.returns
returns c =
    let back = to_z-of_z w32 c.args.end c.ranges.end in
    let inside = rw back at c.is_inside.ensures in
    let tight = rw back at c.is_tight.ensures in
    let Inside = λ (xs : List ℤ). IsInside xs c.args.end in
    let Member = λ (xs : List ℤ). Contains xs c.args.end in (
      λ h. record {
        at = record { end = subst Member c.requires.ends c.requires.end; tight = tight.0 h };
        inside = subst Inside c.requires.ends (inside.0 c.if-not-is_inside.false);
      },
      λ pinch. tight.1 pinch.at.tight,
    )
