-- Heights of flows above a place, and the shares of a duty that lie above it. Distances are temperatures less the
-- place.
use Rattle.std.specs.Prelude.{◌≡◌, ℤ, Bool, true, false, if◌then◌else◌, List, All}
use Rattle.std.specs.Ordering.{is_le}
use Rattle.fractions.specs.Rationals.{IsAtMost, IsBelow, Rational, is_below, minus, over, rational_cmp, rational_sum_by, rational_zero, times, whole}
use Rattle.network_values.specs.Sides.{Between, Level, SideRun, high_of, low_of, seen_from}

-- the positive part of a number: what it is above 0, and 0 where it is not
unfoldable pub positive_part : Rational → Rational
positive_part x = if is_below rational_zero x then x else rational_zero

-- the height of a flow by its size and its distance
abbrev pub height : Rational → Rational → Rational
height size distance = times size (positive_part distance)

-- ---- shares

-- a flow of a size above 0 gives or takes the duty between its ends, and a level any duty
abbrev pub HasDuty : Rational → SideRun → Type 0
HasDuty duty (Between size low high) = IsBelow rational_zero size × (times size (minus high low) ≡ duty)
HasDuty duty (Level at) = Unit {0}

-- a level at this distance lies above the place: at the place itself only where the place counts from itself
abbrev pub is_above : Bool → Rational → Bool
is_above true distance = is_le (rational_cmp rational_zero distance)
is_above false distance = is_below rational_zero distance

-- the share of the duty above the place: of a flow the difference of its heights, of a level all or nothing
abbrev pub share : Bool → Rational → SideRun → Rational
share from_itself duty (Between size low high) = minus (height size high) (height size low)
share from_itself duty (Level at) = if is_above from_itself at then duty else rational_zero

-- ---- views

-- a place of the shifted scale, in tenths of °C, and whether what stays at the place itself is counted as above it
pub record View : Type 0 where
  pub place : ℤ
  pub from_itself : Bool

-- the share of a side whose temperatures are on the shifted scale
abbrev pub share_in : View → Rational → SideRun → Rational
share_in view duty side = share view.from_itself duty (seen_from (whole view.place) side)

-- ---- the fact on one exchanger

-- at neither end is the hot side below the cold one
pub record IsBelowAtNoEnd (hot cold : SideRun) : Type 0 where
  pub high : IsAtMost (high_of cold) (high_of hot)
  pub low : IsAtMost (low_of cold) (low_of hot)

-- of two sides that have the duty, on one scale, the hot side at neither end below the cold one: above every place
-- the hot side has at least the share of the cold one
abbrev pub HotSharesAreAtLeastColdShares : Type 0
HotSharesAreAtLeastColdShares =
    (from_itself : Bool) (place duty : Rational) (hot cold : SideRun) → IsBelow rational_zero duty
    → HasDuty duty hot → HasDuty duty cold
    → IsBelowAtNoEnd hot cold
    → IsAtMost (share from_itself duty (seen_from place cold)) (share from_itself duty (seen_from place hot))

-- the same with prices that rise at some places: shares times rises add up to no less on the hot side
pub record PriceRise : Type 0 where
  pub from_itself : Bool
  pub place : Rational
  pub rise : Rational

-- what the shares of a side above these places are worth
abbrev pub share_worth : Rational → SideRun → List PriceRise → Rational
share_worth duty side rises =
    rational_sum_by (λ r. times r.rise (share r.from_itself duty (seen_from r.place side))) rises

abbrev pub PricedSharesAreOrdered : Type 0
PricedSharesAreOrdered =
    (duty : Rational) (hot cold : SideRun) (rises : List PriceRise) → IsBelow rational_zero duty
    → HasDuty duty hot → HasDuty duty cold
    → IsBelowAtNoEnd hot cold → All (λ r. IsAtMost rational_zero r.rise) rises
    → IsAtMost (share_worth duty cold rises) (share_worth duty hot rises)

-- ---- what a share is

-- the share is all of the duty, nothing of it, or by the part of the side that is above the place; of a level at the
-- place itself it is all where the place counts from itself, else nothing
pub record IsPart (from_itself : Bool) (duty : Rational) (side : SideRun) : Type 0 where
  pub above : IsAtMost rational_zero (low_of side) → IsBelow rational_zero (high_of side)
      → share from_itself duty side ≡ duty
  pub below : IsAtMost (high_of side) rational_zero → IsBelow (low_of side) rational_zero
      → share from_itself duty side ≡ rational_zero
  pub across : IsAtMost (low_of side) rational_zero → IsBelow rational_zero (high_of side)
      → share from_itself duty side ≡ over (times duty (high_of side)) (minus (high_of side) (low_of side))
  pub itself : low_of side ≡ rational_zero → high_of side ≡ rational_zero
      → share from_itself duty side ≡ (if from_itself then duty else rational_zero)
  pub least : IsAtMost rational_zero (share from_itself duty side)
  pub most : IsAtMost (share from_itself duty side) duty

abbrev pub SharesAreParts : Type 0
SharesAreParts =
    (from_itself : Bool) (place duty : Rational) (side : SideRun) → IsBelow rational_zero duty → HasDuty duty side
    → IsPart from_itself duty (seen_from place side)
