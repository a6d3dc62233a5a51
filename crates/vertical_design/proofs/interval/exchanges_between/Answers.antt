use Rattle.vertical_design.proofs.Words.{Exchange, IsGap, exchanges_at, flat_map, ints, matches_in, range_with_len}
use Rattle.std.proofs.Common.{List, ap, arith, get_or, length, of_z, pos, subst₂, sym, to_z, w64, ℤ, ◌++◌, ◌+◌, ◌-◌, ◌<◌, ◌∙◌, ◌≡◌}
use Rattle.vertical_design.proofs.FlowLimits.{few_cuts, gap_at}
use Rattle.vertical_design.proofs.RowLists.{rows_more}
use Rattle.vertical_design.proofs.interval.exchanges_between.Goals.{In-loop-number}
use Rattle.vertical_design.proofs.interval.exchanges_between.Goals as goal

few : (c : In-loop-number) → c.loop-number.number < length c.args.cuts.now - 1
few c = omega (arith, c.loop-number-test.true, c.count_of-number-end.ensures)

gap : (c : In-loop-number)
    → IsGap (get_or c.args.cuts.now (c.loop-number.number + 1) (pos 0))
    (get_or c.args.cuts.now c.loop-number.number (pos 0))
gap c =
    gap_at c.args.hot.now c.args.cold.now c.args.cuts.now c.requires.hot c.requires.cold c.requires.cuts
    c.loop-number.number (few c)

-- a place of the axis is a number of 64 bits
held : (low high : ℤ) → IsGap low high → (to_z w64 (of_z w64 low) ≡ low) × (to_z w64 (of_z w64 high) ≡ high)
held low high gap = (
  omega (arith, ints, gap.low_place.from, gap.low_place.upto),
  omega (arith, ints, gap.high_place.from, gap.high_place.upto),
)

pub push_matches-requires-clause-gap : goal.push_matches-requires-clause-gap
push_matches-requires-clause-gap c =
    let is = gap (goal.at.push_matches-requires-clause-gap c).In-loop-number in
    let high = get_or c.args.cuts.now c.loop-number.number (pos 0) in
    let same = held (get_or c.args.cuts.now (c.loop-number.number + 1) (pos 0)) high is in
    subst₂ IsGap (sym same.0) (sym same.1) is

pub push_matches-requires-clause-number : goal.push_matches-requires-clause-number
push_matches-requires-clause-number c =
    let all = few_cuts c.args.hot.now c.args.cold.now c.args.cuts.now c.requires.hot c.requires.cold c.requires.cuts in
    omega (arith, all, few (goal.at.push_matches-requires-clause-number c).In-loop-number)

pub overflow_cast-number : goal.overflow_cast-number
overflow_cast-number c =
    let all = few_cuts c.args.hot.now c.args.cold.now c.args.cuts.now c.requires.hot c.requires.cold c.requires.cuts in
    omega (arith, all, few (goal.at.overflow_cast-number c).In-loop-number)

pub loop-number-preserved : goal.loop-number-preserved
loop-number-preserved c =
    let n = c.loop-number.number in
    let hot = c.args.hot.now in
    let cold = c.args.cold.now in
    let cuts = c.args.cuts.now in
    let same =
    held (get_or cuts (n + 1) (pos 0)) (get_or cuts n (pos 0)) (gap (goal.at.loop-number-preserved c).In-loop-number) in
    c.in_ok-push_matches.ensures ∙ (λ i. c.loop-number.exchanges.items ++ matches_in n (same.0 i) (same.1 i) hot cold)
    ∙ ap (λ (es : List Exchange). es ++ exchanges_at hot cold cuts n) c.loop-number.invariant
    ∙ sym (rows_more (exchanges_at hot cold cuts) n)

pub returns : goal.returns
returns c =
    let all : c.loop-number.number ≡ length c.args.cuts.now - 1
    = omega (arith, c.loop-number-test.false, c.count_of-number-end.ensures) in
    c.loop-number.invariant
    ∙ ap (λ k. flat_map (exchanges_at c.args.hot.now c.args.cold.now c.args.cuts.now) (range_with_len 0 k)) all
