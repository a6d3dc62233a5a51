use Rattle.std.proofs.Common.{arith, of_z, to_z, ◌≡◌}
use Rattle.study.proofs.Words.{ints, w128, ◌-ℤ◌}
use Rattle.study.proofs.ChordBounds.{cost-fits, cost-told, rise-fits}
use Rattle.study.proofs.chords.chord_at.Goals as goal

pub overflow_mul-result : goal.overflow_mul-result
overflow_mul-result c =
    let small = c.requires.chord in
    let is = c.requires.price in
    let ahead : to_z w128 (of_z w128 c.from.result) ≡ c.args.price -ℤ c.args.chord.from
    = omega (arith, ints, c.from.ensures) in
    rise-fits c.args.chord c.args.price small is c.from.result ahead

pub overflow_add-result : goal.overflow_add-result
overflow_add-result c =
    let small = c.requires.chord in
    let is = c.requires.price in
    let ahead : to_z w128 (of_z w128 c.from.result) ≡ c.args.price -ℤ c.args.chord.from
    = omega (arith, ints, c.from.ensures) in
    cost-fits c.args.chord c.args.price small is c.from.result ahead

pub returns : goal.returns
returns c =
    let small = c.requires.chord in
    let is = c.requires.price in
    let ahead : to_z w128 (of_z w128 c.from.result) ≡ c.args.price -ℤ c.args.chord.from
    = omega (arith, ints, c.from.ensures) in
    cost-told c.args.chord c.args.price small is c.from.result ahead
