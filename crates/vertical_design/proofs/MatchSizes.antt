-- An exchange has a positive heat and positive sizes where it is a match of bands that meet.
use Rattle.vertical_design.proofs.Words.{*ℤ_comm, Band, Exchange, IsGap, IsPositive, Pair, flow_in, int_le, ints, match_of, positive-ratio}
use Rattle.vertical_design.proofs.Words.{positive_num, ratio, side_flow, times, times-ratio, unsigned_abs, unsigned_abs-mul, within-ratio, zero_times}
use Rattle.vertical_design.proofs.Words.{◌&&◌, ◌*ℤ◌, ◌-ℤ◌}
use Rattle.std.proofs.Common.{Bool, List, ap₂, arith, false, if◌then◌else◌, pos, refl, sym, true, ℕ, ℤ, ◌*◌, ◌<ℤ◌, ◌^◌, ◌∙◌, ◌≡◌, ◌≤ℤ◌}
use Rattle.vertical_design.proofs.SideScales.{size_above}
use Rattle.vertical_design.proofs.FlowLimits.{IsShare, duty-within}
use Rattle.vertical_design.proofs.SharedFlows.{other}
use Rattle.vertical_design.proofs.CutNeighbours.{reaches}

fraction-positive : (num den : ℤ) → pos 0 <ℤ num → num ≤ℤ pos (2 ^ 76) → pos 0 <ℤ den → den ≤ℤ pos (2 ^ 48)
    → IsPositive (ratio num (unsigned_abs den))
fraction-positive num den num_above num_upto den_above den_upto =
    let some = size_above den den_above in
    record {
      above = positive_num (ratio num (unsigned_abs den)) (positive-ratio num (unsigned_abs den) some num_above);
      within =
          within-ratio num (unsigned_abs den) some (omega (arith, ints, num_above, num_upto))
          (omega (arith, ints, den_above, den_upto));
    }

pub record IsPositiveExchange (e : Exchange) : Type 0 where
  pub heat : IsPositive e.heat
  pub hot_size : IsPositive e.hot_size
  pub cold_size : IsPositive e.cold_size

-- a share over the other side's flow, times the heat over the own side's flow
pub share_heat : (share heat own other : ℤ) → pos 0 <ℤ own → pos 0 <ℤ other
    → times (ratio share (unsigned_abs other)) (ratio heat (unsigned_abs own))
    ≡ ratio (heat *ℤ share) (unsigned_abs (own *ℤ other))
share_heat share heat own other some more =
    times-ratio share heat (unsigned_abs other) (unsigned_abs own) (size_above other more) (size_above own some)
    ∙ ap₂ ratio (*ℤ_comm share heat) (turned (unsigned_abs other) (unsigned_abs own) ∙ sym (unsigned_abs-mul own other))
  where
    turned : (a b : ℕ) → a * b ≡ b * a
    turned a b = omega arith

module _ (number : ℕ) (low high : ℤ) (hot cold : List Band) where
  abbrev made : Pair → Exchange
  made p = match_of number low high hot cold p

  pub positive-match : (p : Pair) → IsGap low high → IsShare low high hot cold p → IsPositiveExchange (made p)
  positive-match p gap is =
      let duty = duty-within low high p.amount (side_flow low high hot) (side_flow low high cold) gap is.above is.upto
      is.hot_flow is.cold_flow in
      record {
        heat =
            fraction-positive ((high -ℤ low) *ℤ p.amount) (side_flow low high hot *ℤ side_flow low high cold)
            duty.num_above duty.num_upto duty.den_from duty.den_upto;
        hot_size =
            fraction-positive p.amount (side_flow low high cold) is.above (omega (arith, ints, is.upto))
            (omega (arith, ints, is.cold_flow.from)) (omega (arith, ints, is.cold_flow.upto));
        cold_size =
            fraction-positive p.amount (side_flow low high hot) is.above (omega (arith, ints, is.upto))
            (omega (arith, ints, is.hot_flow.from)) (omega (arith, ints, is.hot_flow.upto));
      }

-- what offers something runs
pub running : (low high : ℤ) (a : Band) (across : ℤ) → pos 0 <ℤ (flow_in low high a *ℤ across)
    → (a.from ≤ℤ low) × (high ≤ℤ a.to)
running low high a across above = by (int_le a.from low && int_le high a.to) refl above
  where
    by : (b : Bool) → (int_le a.from low && int_le high a.to) ≡ b
        → pos 0 <ℤ ((if b then a.cp else pos 0) *ℤ across) → (a.from ≤ℤ low) × (high ≤ℤ a.to)
    by true is some = reaches a.from a.to low high is
    by false is some =
        let none = zero_times (pos 0) across refl in
        absurd (omega (arith, ints, some, none))
