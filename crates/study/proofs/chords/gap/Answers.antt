use Rattle.std.proofs.Common.{FitsSigned, ap, arith, rules, w64, ◌∙◌}
use Rattle.study.proofs.Words.{chord_at, ints, to_z-of_z}
use Rattle.study.proofs.ChordBounds.{gap-within}
use Rattle.study.proofs.chords.gap.Goals as goal

pub overflow_sub-result : goal.overflow_sub-result
overflow_sub-result c =
    let chord = c.args.chord in
    let point = c.args.point in
    let fits : FitsSigned w64 point.price = search rules in
    let on = c.chord_at.ensures ∙ ap (chord_at chord) (to_z-of_z w64 point.price fits) in
    let is =
    gap-within chord point.price point.cost c.chord_at.result c.requires.chord c.requires.point.price
    c.requires.point.cost on in
    let low = is.from in
    let high = is.upto in
    omega (arith, ints)

pub returns : goal.returns
returns c =
    let chord = c.args.chord in
    let point = c.args.point in
    let fits : FitsSigned w64 point.price = search rules in
    let on = c.chord_at.ensures ∙ ap (chord_at chord) (to_z-of_z w64 point.price fits) in
    let is =
    gap-within chord point.price point.cost c.chord_at.result c.requires.chord c.requires.point.price
    c.requires.point.cost on in
    let low = is.from in
    let high = is.upto in
    record { from = omega (arith, ints); upto = omega (arith, ints) }
