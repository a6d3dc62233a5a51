-- The lowest place lies within the limits of the shifted scale.
use Rattle.site.proofs.PlaceLemmas.{lowest-between, some_place}
use Rattle.std.proofs.Common.{ap, arith, subst, sym, ◌∙◌}
use Rattle.site.proofs.Words.{IsShifted, ints, least}
use Rattle.site.proofs.utilities.cooling_level.Goals as goal

pub lowest-requires : goal.lowest-requires
lowest-requires c = rw c.requires.places (some_place c.args.site.now c.requires.valid)

pub overflow_sub-result : goal.overflow_sub-result
overflow_sub-result c =
    let range = subst (λ places. IsShifted (least places)) (sym c.requires.places) (lowest-between c.args.site.now c.requires.valid) in
    omega (arith, ints, range, c.requires.valid.contribution)

pub returns : goal.returns
returns c =
    let range = subst (λ places. IsShifted (least places)) (sym c.requires.places) (lowest-between c.args.site.now c.requires.valid) in
    let value = c.lowest.ensures ∙ ap least c.requires.places in
    omega (arith, ints, range, value, c.requires.valid.contribution)
