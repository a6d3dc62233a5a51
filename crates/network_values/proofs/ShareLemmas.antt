-- Shares of a duty above a place: what they are, and those of the two sides of an exchanger.
use Rattle.network_values.proofs.Words.{All-weaker, Between, Decides-is_below, Decides-is_le, HasDuty, IsAtMost, IsBelow, Level, Rational, SideRun}
use Rattle.network_values.proofs.Words.{at_most-minus_minus, at_most-plus_plus, at_most-times, at_most-times_left, at_most_from_below, at_most_from_not_below}
use Rattle.network_values.proofs.Words.{at_most_from_same, at_most_refl, at_most_trans, below_at_most_trans, below_from_positive, below_not_at_most}
use Rattle.network_values.proofs.Words.{below_not_same, below_or_at_most, false≢true, height, high_of, is_above, low_of, minus, minus-minus_same}
use Rattle.network_values.proofs.Words.{minus-self, minus-zero, not_negative-minus, plus, plus-minus, positive-minus, positive-nonzero, positive_factor}
use Rattle.network_values.proofs.Words.{rational_zero, seen_from, share, subst₂, times, times-minus, times-turned, times-zero, times_swap}
use Rattle.fractions.proofs.Products.{over_from_times}
use Rattle.fractions.proofs.RationalSums.{at_most-rational_sum_by}
use Rattle.network_values.proofs.HeightLemmas.{positive_part-above, positive_part-at_most, positive_part-below}
use Rattle.network_values.specs.Heights.{HotSharesAreAtLeastColdShares, IsBelowAtNoEnd, IsPart, PricedSharesAreOrdered, SharesAreParts}
use Rattle.std.proofs.Common.{Bool, ap, ap₂, arith, false, if◌then◌else◌, inl, inr, refl, subst, sym, true, ◌∙◌, ◌≡◌, ◌⊎◌}

-- ---- flows: above the place, below it, and across it

module _ (size low high : Rational) where
  pub flow-above : IsAtMost rational_zero low → IsAtMost rational_zero high
      → minus (height size high) (height size low) ≡ times size (minus high low)
  flow-above at other =
      ap₂ (λ x y. minus (times size x) (times size y)) (positive_part-above high other) (positive_part-above low at)
      ∙ sym (times-minus size high low)

  pub flow-below : IsAtMost low rational_zero → IsAtMost high rational_zero
      → minus (height size high) (height size low) ≡ rational_zero
  flow-below at other =
      ap₂ (λ x y. minus (times size x) (times size y)) (positive_part-below high other) (positive_part-below low at)
      ∙ minus-self (times size rational_zero)

  pub flow-across : IsAtMost low rational_zero → IsAtMost rational_zero high
      → minus (height size high) (height size low) ≡ times size high
  flow-across at other =
      ap₂ (λ x y. minus (times size x) (times size y)) (positive_part-above high other) (positive_part-below low at)
      ∙ ap (minus (times size high)) (times-zero size) ∙ minus-zero (times size high)

module _ (size low high : Rational) (some : IsBelow rational_zero size) where
  -- a flow with a duty above 0 rises
  pub rises : IsBelow rational_zero (times size (minus high low)) → IsBelow low high
  rises duty =
      below_from_positive low high (positive_factor size (minus high low) (at_most_from_below rational_zero size some) duty)

  within : IsBelow low high → IsAtMost (minus (height size high) (height size low)) (times size (minus high low))
  within up = by (below_or_at_most low rational_zero) (below_or_at_most rational_zero high)
    where
      upward : IsAtMost low high
      upward = at_most_from_below low high up

      kept : IsAtMost rational_zero size
      kept = at_most_from_below rational_zero size some

      by : IsBelow low rational_zero ⊎ IsAtMost rational_zero low
          → IsBelow rational_zero high ⊎ IsAtMost high rational_zero
          → IsAtMost (minus (height size high) (height size low)) (times size (minus high low))
      by (inr at) other =
          at_most_from_same _ _ (flow-above size low high at (at_most_trans rational_zero low high at upward))
      by (inl at) (inr other) = subst (λ x. IsAtMost x (times size (minus high low))) (times-zero size
          ∙ sym (flow-below size low high (at_most_from_below low rational_zero at) other)) (at_most-times_left size rational_zero (minus high low) kept
          (not_negative-minus low high upward))
      by (inl at) (inl other) =
          subst (λ x. IsAtMost x (times size (minus high low)))
          (sym (flow-across size low high (at_most_from_below low rational_zero at) (at_most_from_below rational_zero high other)))
          (at_most-times_left size high (minus high low) kept (subst (λ x. IsAtMost x (minus high low)) (minus-zero high)
          (at_most-minus_minus high high low rational_zero (at_most_refl high) (at_most_from_below low rational_zero at))))

-- ---- levels

is_above-above : (from_itself : Bool) (at : Rational) → IsBelow rational_zero at → is_above from_itself at ≡ true
is_above-above true at above = (Decides-is_le rational_zero at).1 (at_most_from_below rational_zero at above)
is_above-above false at above = (Decides-is_below rational_zero at).1 above

-- a level that counts is at the place or above it, and one that doesn't at it or below it
is_above-true : (from_itself : Bool) (at : Rational) → is_above from_itself at ≡ true → IsAtMost rational_zero at
is_above-true true at passes = (Decides-is_le rational_zero at).0 passes
is_above-true false at passes = at_most_from_below rational_zero at ((Decides-is_below rational_zero at).0 passes)

is_above-false : (from_itself : Bool) (at : Rational) → is_above from_itself at ≡ false → IsAtMost at rational_zero
is_above-false from_itself at fails =
    at_most_from_not_below rational_zero at (λ above. false≢true (sym fails ∙ is_above-above from_itself at above))

is_above-below : (from_itself : Bool) (at : Rational) → IsBelow at rational_zero → is_above from_itself at ≡ false
is_above-below from_itself at below =
    grind (arith, is_above-true from_itself at, below_not_at_most at rational_zero below)

pub is_above-higher : (from_itself : Bool) (at other : Rational) → IsAtMost at other
    → is_above from_itself at ≡ true → is_above from_itself other ≡ true
is_above-higher true at other more passes = (Decides-is_le rational_zero other).1
    (at_most_trans rational_zero at other ((Decides-is_le rational_zero at).0 passes) more)
is_above-higher false at other more passes = (Decides-is_below rational_zero other).1
    (below_at_most_trans rational_zero at other ((Decides-is_below rational_zero at).0 passes) more)

-- what lies above the place counts from the place itself too
pub is_above-itself : (at : Rational) → is_above false at ≡ true → is_above true at ≡ true
is_above-itself at passes = is_above-above true at ((Decides-is_below rational_zero at).0 passes)

-- a level at the place itself
is_above-at : (from_itself : Bool) (at : Rational) → at ≡ rational_zero → is_above from_itself at ≡ from_itself
is_above-at true at same = (Decides-is_le rational_zero at).1 (at_most_from_same rational_zero at (sym same))
is_above-at false at same = grind (arith, Decides-is_below rational_zero at, below_not_same rational_zero at)

-- ---- shares of a duty, by distances

module _ (from_itself : Bool) (duty : Rational) (positive : IsBelow rational_zero duty) where
  pub is_part : (side : SideRun) → HasDuty duty side → IsPart from_itself duty side
  is_part (Between size low high) (some, gives) =
      let up = rises size low high some (subst (IsBelow rational_zero) (sym gives) positive) in
      let upward = at_most_from_below low high up in
      record {
        above = λ at other. flow-above size low high at (at_most_from_below rational_zero high other) ∙ gives;
        below = λ other at. flow-below size low high (at_most_from_below low rational_zero at) other;
        across = λ at other.
            flow-across size low high at (at_most_from_below rational_zero high other)
            ∙ over_from_times (times size high) (times duty high) (minus high low)
            (positive-nonzero (minus high low) (positive-minus low high up)) (times_swap size high (minus high low) ∙ ap (λ x. times x high) gives);
        itself = λ at other. absurd (below_not_same low high up (at ∙ sym other));
        least = not_negative-minus (height size low) (height size high)
            (at_most-times_left size _ _ (at_most_from_below rational_zero size some) (positive_part-at_most low high upward));
        most = subst (IsAtMost (minus (height size high) (height size low))) gives (within size low high some up);
      }
  is_part (Level at) has = record {
    above = λ from other. ap (λ b. if b then duty else rational_zero) (is_above-above from_itself at other);
    below = λ upto other. ap (λ b. if b then duty else rational_zero) (is_above-below from_itself at other);
    across = λ upto other. absurd (below_not_at_most rational_zero at other upto);
    itself = λ here other. ap (λ b. if b then duty else rational_zero) (is_above-at from_itself at here);
    least = grind (arith, at_most_refl rational_zero, at_most_from_below rational_zero duty positive);
    most = grind (arith, at_most_refl duty, at_most_from_below rational_zero duty positive);
  }

  -- all of the duty on the hot side, or nothing on the cold one
  whole_or_nothing : (hot cold : SideRun) → HasDuty duty hot → HasDuty duty cold
      → (share from_itself duty hot ≡ duty) ⊎ (share from_itself duty cold ≡ rational_zero)
      → IsAtMost (share from_itself duty cold) (share from_itself duty hot)
  whole_or_nothing hot cold of_hot of_cold (inl all) =
      subst (IsAtMost (share from_itself duty cold)) (sym all) (is_part cold of_cold).most
  whole_or_nothing hot cold of_hot of_cold (inr none) =
      subst (λ x. IsAtMost x (share from_itself duty hot)) (sym none) (is_part hot of_hot).least

  -- two flows across the place: that of the lesser size, or that of the lesser rise, decides
  flows-across : (f h hot_low hot_high cold_low cold_high : Rational) → IsAtMost rational_zero h
      → IsAtMost hot_low rational_zero
      → IsAtMost rational_zero hot_high → IsAtMost cold_high hot_high → IsAtMost cold_low hot_low
      → times f (minus hot_high hot_low) ≡ times h (minus cold_high cold_low)
      → IsAtMost (times h cold_high) (times f hot_high)
  flows-across f h hot_low hot_high cold_low cold_high some below above high low same = by (below_or_at_most f h)
    where
      from_low : (g a b : Rational) → plus (times g (minus a b)) (times g b) ≡ times g a
      from_low g a b = ap (λ x. plus x (times g b)) (times-minus g a b) ∙ plus-minus (times g a) (times g b)

      by : IsBelow f h ⊎ IsAtMost h f → IsAtMost (times h cold_high) (times f hot_high)
      by (inl less) =
          let lows = at_most_trans (times h cold_low) (times h hot_low) (times f hot_low) (at_most-times_left h cold_low hot_low some low)
          (times-turned f h hot_low (at_most_from_below f h less) below) in
          let both = at_most-plus_plus (times h (minus cold_high cold_low)) (times h (minus cold_high cold_low)) (times h cold_low) (times f hot_low)
          (at_most_refl (times h (minus cold_high cold_low))) lows in
          subst (λ x. IsAtMost x (times f hot_high)) (from_low h cold_high cold_low)
          (subst (IsAtMost (plus (times h (minus cold_high cold_low)) (times h cold_low)))
          (ap (λ x. plus x (times f hot_low)) (sym same) ∙ from_low f hot_high hot_low) both)
      by (inr more) =
          at_most_trans (times h cold_high) (times h hot_high) (times f hot_high) (at_most-times_left h cold_high hot_high some high)
          (at_most-times h f hot_high above more)

  -- two flows
  flows : (f hot_low hot_high h cold_low cold_high : Rational) → HasDuty duty (Between f hot_low hot_high)
      → HasDuty duty (Between h cold_low cold_high)
      → IsAtMost cold_high hot_high → IsAtMost cold_low hot_low
      → IsBelow hot_low rational_zero ⊎ IsAtMost rational_zero hot_low
      → IsBelow rational_zero cold_high ⊎ IsAtMost cold_high rational_zero
      → IsAtMost (share from_itself duty (Between h cold_low cold_high)) (share from_itself duty (Between f hot_low hot_high))
  flows f hot_low hot_high h cold_low cold_high of_hot of_cold high low (inr above) other =
      let up = at_most_from_below hot_low hot_high (rises f hot_low hot_high of_hot.0 (subst (IsBelow rational_zero) (sym of_hot.1) positive)) in
      whole_or_nothing (Between f hot_low hot_high) (Between h cold_low cold_high) of_hot of_cold
      (inl (flow-above f hot_low hot_high above (at_most_trans rational_zero hot_low hot_high above up) ∙ of_hot.1))
  flows f hot_low hot_high h cold_low cold_high of_hot of_cold high low (inl below) (inr none) =
      let up = at_most_from_below cold_low cold_high (rises h cold_low cold_high of_cold.0 (subst (IsBelow rational_zero) (sym of_cold.1) positive)) in
      whole_or_nothing (Between f hot_low hot_high) (Between h cold_low cold_high) of_hot of_cold
      (inr (flow-below h cold_low cold_high (at_most_trans cold_low cold_high rational_zero up none) none))
  flows f hot_low hot_high h cold_low cold_high of_hot of_cold high low (inl below) (inl above) =
      let hot_below = at_most_from_below hot_low rational_zero below in
      let cold_above = at_most_from_below rational_zero cold_high above in
      let hot_above = at_most_trans rational_zero cold_high hot_high cold_above high in
      subst₂ IsAtMost (sym (flow-across h cold_low cold_high (at_most_trans cold_low hot_low rational_zero low hot_below) cold_above))
      (sym (flow-across f hot_low hot_high hot_below hot_above)) (flows-across f h hot_low hot_high cold_low cold_high
      (at_most_from_below rational_zero h of_cold.0) hot_below hot_above high low (of_hot.1 ∙ sym of_cold.1))

  pub hot_share_at_least : (hot cold : SideRun) → HasDuty duty hot → HasDuty duty cold → IsBelowAtNoEnd hot cold
      → IsAtMost (share from_itself duty cold) (share from_itself duty hot)
  hot_share_at_least (Between f hot_low hot_high) (Between h cold_low cold_high) of_hot of_cold order =
      flows f hot_low hot_high h cold_low cold_high of_hot of_cold order.high order.low (below_or_at_most hot_low rational_zero)
      (below_or_at_most rational_zero cold_high)
  hot_share_at_least (Between f hot_low hot_high) (Level at) of_hot of_cold order = by (is_above from_itself at) refl
    where
      by : (b : Bool) → is_above from_itself at ≡ b
          → IsAtMost (share from_itself duty (Level at)) (share from_itself duty (Between f hot_low hot_high))
      by true passes = let from = is_above-true from_itself at passes in
          whole_or_nothing (Between f hot_low hot_high) (Level at) of_hot of_cold
          (inl (flow-above f hot_low hot_high (at_most_trans rational_zero at hot_low from order.low) (at_most_trans rational_zero at hot_high from order.high)
          ∙ of_hot.1))
      by false fails =
          whole_or_nothing (Between f hot_low hot_high) (Level at) of_hot of_cold (inr (ap (λ b. if b then duty else rational_zero) fails))
  hot_share_at_least (Level at) (Between h cold_low cold_high) of_hot of_cold order = by (is_above from_itself at) refl
    where
      by : (b : Bool) → is_above from_itself at ≡ b
          → IsAtMost (share from_itself duty (Between h cold_low cold_high)) (share from_itself duty (Level at))
      by true passes =
          whole_or_nothing (Level at) (Between h cold_low cold_high) of_hot of_cold (inl (ap (λ b. if b then duty else rational_zero) passes))
      by false fails = let upto = is_above-false from_itself at fails in
          whole_or_nothing (Level at) (Between h cold_low cold_high) of_hot of_cold
          (inr (flow-below h cold_low cold_high (at_most_trans cold_low at rational_zero order.low upto)
          (at_most_trans cold_high at rational_zero order.high upto)))
  hot_share_at_least (Level at) (Level other) of_hot of_cold order =
      grind (arith, is_above-higher from_itself other at order.high, at_most_refl, at_most_from_below rational_zero duty positive)

-- ---- the same at every place

pub HasDuty-seen : (place duty : Rational) (side : SideRun) → HasDuty duty side → HasDuty duty (seen_from place side)
HasDuty-seen place duty (Between size low high) (some, gives) =
    (some, ap (times size) (minus-minus_same high low place) ∙ gives)
HasDuty-seen place duty (Level at) has = has

pub low_of-seen : (place : Rational) (side : SideRun) → low_of (seen_from place side) ≡ minus (low_of side) place
low_of-seen place (Between size low high) = refl
low_of-seen place (Level at) = refl

pub high_of-seen : (place : Rational) (side : SideRun) → high_of (seen_from place side) ≡ minus (high_of side) place
high_of-seen place (Between size low high) = refl
high_of-seen place (Level at) = refl

pub hot_shares_lead : HotSharesAreAtLeastColdShares
hot_shares_lead from_itself place duty hot cold positive of_hot of_cold order =
    hot_share_at_least from_itself duty positive (seen_from place hot) (seen_from place cold) (HasDuty-seen place duty hot of_hot)
    (HasDuty-seen place duty cold of_cold) (record {
      high = subst₂ IsAtMost (sym (high_of-seen place cold)) (sym (high_of-seen place hot))
          (at_most-minus_minus (high_of cold) (high_of hot) place place order.high (at_most_refl place));
      low = subst₂ IsAtMost (sym (low_of-seen place cold)) (sym (low_of-seen place hot))
          (at_most-minus_minus (low_of cold) (low_of hot) place place order.low (at_most_refl place));
    })

pub priced_shares : PricedSharesAreOrdered
priced_shares duty hot cold rises positive of_hot of_cold order up =
    at_most-rational_sum_by (λ r. times r.rise (share r.from_itself duty (seen_from r.place cold)))
    (λ r. times r.rise (share r.from_itself duty (seen_from r.place hot))) rises (All-weaker (λ r. IsAtMost rational_zero r.rise)
    (λ r. IsAtMost (times r.rise (share r.from_itself duty (seen_from r.place cold))) (times r.rise (share r.from_itself duty (seen_from r.place hot))))
    (λ r some. at_most-times_left r.rise (share r.from_itself duty (seen_from r.place cold)) (share r.from_itself duty (seen_from r.place hot)) some
    (hot_shares_lead r.from_itself r.place duty hot cold positive of_hot of_cold order)) rises up)

pub shares_parts : SharesAreParts
shares_parts from_itself place duty side positive has =
    is_part from_itself duty positive (seen_from place side) (HasDuty-seen place duty side has)
