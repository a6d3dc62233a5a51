use Rattle.std.proofs.Common.{arith}
use Rattle.vertical_design.proofs.Words.{ints}
use Rattle.vertical_design.proofs.FlowLimits.{IsShare, share-within}
use Rattle.vertical_design.proofs.matches.match_of.Goals.{After-piece_at-2}
use Rattle.vertical_design.proofs.matches.match_of.Goals as goal

share : (c : After-piece_at-2) → IsShare c.args.gap.low c.args.gap.high c.args.hot.now c.args.cold.now c.args.pair
share c =
    share-within c.args.gap.low c.args.gap.high c.args.hot.now c.args.cold.now c.args.pair c.requires.hot
    c.requires.cold c.requires.pair

pub quotient-requires-clause-above : goal.quotient-requires-clause-above
quotient-requires-clause-above c =
    omega (
      arith,
      ints,
      c.requires.cold_flow,
      (share (goal.at.quotient-requires-clause-above c).After-piece_at-2).cold_flow.from,
    )

pub quotient-requires-clause-den : goal.quotient-requires-clause-den
quotient-requires-clause-den c =
    omega (
      arith,
      ints,
      c.requires.cold_flow,
      (share (goal.at.quotient-requires-clause-den c).After-piece_at-2).cold_flow.upto,
    )

pub quotient-requires-2-clause-above : goal.quotient-requires-2-clause-above
quotient-requires-2-clause-above c =
    omega (
      arith,
      ints,
      c.requires.hot_flow,
      (share (goal.at.quotient-requires-2-clause-above c).After-piece_at-2).hot_flow.from,
    )

pub quotient-requires-2-clause-den : goal.quotient-requires-2-clause-den
quotient-requires-2-clause-den c =
    omega (
      arith,
      ints,
      c.requires.hot_flow,
      (share (goal.at.quotient-requires-2-clause-den c).After-piece_at-2).hot_flow.upto,
    )

pub duty_of-requires-clause-hot : goal.duty_of-requires-clause-hot
duty_of-requires-clause-hot c =
    let h = (share (goal.at.duty_of-requires-clause-hot c).After-piece_at-2).hot_flow in
    record {
      from = omega (arith, ints, h.from, c.requires.hot_flow);
      upto = omega (arith, ints, h.upto, c.requires.hot_flow);
    }

pub duty_of-requires-clause-cold : goal.duty_of-requires-clause-cold
duty_of-requires-clause-cold c =
    let h = (share (goal.at.duty_of-requires-clause-cold c).After-piece_at-2).cold_flow in
    record {
      from = omega (arith, ints, h.from, c.requires.cold_flow);
      upto = omega (arith, ints, h.upto, c.requires.cold_flow);
    }

pub duty_of-requires-clause-share : goal.duty_of-requires-clause-share
duty_of-requires-clause-share c =
    let s = share (goal.at.duty_of-requires-clause-share c).After-piece_at-2 in
    record { from = omega (arith, ints, s.above, s.upto); upto = omega (arith, ints, s.above, s.upto) }
