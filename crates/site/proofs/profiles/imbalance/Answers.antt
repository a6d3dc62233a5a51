-- The surplus is the deficit above the place less that of all heats.
use Rattle.site.proofs.ProfileLemmas.{surplus_below-is}
use Rattle.site.proofs.Words.{deficit_above, imbalance, ints, surplus_below, to_z-of_z, ◌-ℤ◌}
use Rattle.std.proofs.Common.{ap, arith, of_z, sym, to_z, w32, w64, ◌∙◌, ◌≡◌}
use Rattle.site.proofs.profiles.imbalance.Goals as goal

pub returns-in-Down-clause-value : goal.returns-in-Down-clause-value
returns-in-Down-clause-value c =
    let streams = c.args.streams.now in
    let place = ap (deficit_above streams) (to_z-of_z w32 c.args.place c.ranges.place) in
    let below = surplus_below-is c.args.place streams c.requires in
    let here = c.deficit_of-in-Down.ensures in
    let all = c.deficit_of-in-Down-2.ensures in
    let value : to_z w64 (of_z w64 (to_z w64 (of_z w64 c.deficit_of-in-Down.result) -ℤ to_z w64 (of_z w64 c.deficit_of-in-Down-2.result)))
    ≡ surplus_below streams c.args.place = omega (arith, ints, here, all) in
    value ∙ ap (λ direction. imbalance direction streams c.args.place) (sym c.in-Down.is)
