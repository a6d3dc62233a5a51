use Rattle.std.proofs.Common.{arith, of_z, to_z, w64, ◌≡◌}
use Rattle.study.proofs.Words.{ints, pos, ◌-ℤ◌, ◌≤ℤ◌}
use Rattle.study.proofs.chords.next_price.Goals.{After-within}
use Rattle.study.proofs.chords.next_price.Goals as goal

-- how far back the price is at the most
most_back : (c : After-within) → c.within.result ≤ℤ (c.args.off -ℤ c.args.on -ℤ pos 2)
most_back c =
    let a = c.requires.first.from in
    let b = c.requires.first.upto in
    let d = c.requires.last.from in
    let e = c.requires.last.upto in
    let off = to_z w64 (of_z w64 c.args.off) in
    let on = to_z w64 (of_z w64 c.args.on) in
    let high = c.within.ensures.high in
    let width : to_z w64 (of_z w64 (off -ℤ on)) ≡ c.args.off -ℤ c.args.on = omega (arith, ints) in
    let less : to_z w64 (of_z w64 (to_z w64 (of_z w64 (off -ℤ on)) -ℤ pos 2)) ≡ c.args.off -ℤ c.args.on -ℤ pos 2
    = omega (arith, ints, width) in
    omega (arith, ints, less, high)

pub overflow_sub-result-in-len2-up : goal.overflow_sub-result-in-len2-up
overflow_sub-result-in-len2-up c =
    let a = c.requires.first.from in
    let e = c.requires.last.upto in
    let low = c.within.ensures.low in
    let high = most_back c in
    let last : to_z w64 (of_z w64 (to_z w64 (of_z w64 c.args.off) -ℤ pos 1)) ≡ c.args.off -ℤ pos 1
    = omega (arith, ints) in
    omega (arith, ints, last, low, high)

pub returns-in-len2-up-clause-behind : goal.returns-in-len2-up-clause-behind
returns-in-len2-up-clause-behind c =
    let a = c.requires.first.from in
    let e = c.requires.last.upto in
    let low = c.within.ensures.low in
    let high = most_back c in
    let last : to_z w64 (of_z w64 (to_z w64 (of_z w64 c.args.off) -ℤ pos 1)) ≡ c.args.off -ℤ pos 1
    = omega (arith, ints) in
    omega (arith, ints, last, low, high)

pub returns-in-len2-up-clause-before : goal.returns-in-len2-up-clause-before
returns-in-len2-up-clause-before c =
    let a = c.requires.first.from in
    let e = c.requires.last.upto in
    let low = c.within.ensures.low in
    let high = most_back c in
    let last : to_z w64 (of_z w64 (to_z w64 (of_z w64 c.args.off) -ℤ pos 1)) ≡ c.args.off -ℤ pos 1
    = omega (arith, ints) in
    omega (arith, ints, last, low, high)
