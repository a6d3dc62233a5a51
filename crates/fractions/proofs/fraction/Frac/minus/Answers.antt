use Rattle.fractions.proofs.Words.{minus, to_z-of_z, w128}
use Rattle.std.proofs.Common.{SFits, rules, ◌-ℤ◌}
use Rattle.fractions.proofs.fraction.Frac.minus.Goals as goal

pub returns : goal.returns
unfolding minus
returns c =
    let one : SFits w128 c.cross.result = search rules in
    let two : SFits w128 c.cross-2.result = search rules in
    let both : SFits w128 (c.cross.result -ℤ c.cross-2.result) = search rules in
    rw (c.cross.ensures.value, c.cross-2.ensures.value) at (simp to_z-of_z at c.over_both.ensures)
