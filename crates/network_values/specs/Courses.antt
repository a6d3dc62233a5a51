-- The course of a stream, seen from a place, and the heights and sides on it.
use Rattle.std.specs.Prelude.{◌≡◌, Bool, true, false, if◌then◌else◌}
use Rattle.fractions.specs.Rationals.{IsAtMost, IsBelow, Rational, minus, plus, rational_zero, times}
use Rattle.network_values.specs.Heights.{HasDuty, is_above, share}
use Rattle.network_values.specs.Mixes.{height_above}
use Rattle.network_values.specs.Sides.{Between, Level, SideRun, seen_from}
use Rattle.network_values.specs.Values.{IsMix}
use Rattle.network_values.specs.declared.values.BranchValue.{BranchValue}

-- a sensible stream changes its temperature, and its distances are its temperatures less a base; a latent one stays at
-- one distance
pub data Course : Type 0 where
  Sensible : Rational → Course
  Latent : Rational → Course

-- the height of a branch; of a latent one, whose state is the part that it still has to give or has taken, all or
-- nothing
abbrev pub height_on : Bool → Course → BranchValue → Rational
height_on from_itself (Sensible base) value = height_above base value
height_on from_itself (Latent distance) value =
    if is_above from_itself distance then times value.cp value.t else rational_zero

-- the side of an exchanger that a branch passes between a lower and a higher state, as distances
abbrev pub side_on : Course → BranchValue → BranchValue → SideRun
side_on (Sensible base) low high = Between high.cp (minus low.t base) (minus high.t base)
side_on (Latent distance) low high = Level distance

-- the size stays, and the size times the change is the duty
pub record IsBetweenValues (duty : Rational) (low high : BranchValue) : Type 0 where
  pub some : IsBelow rational_zero high.cp
  pub size : low.cp ≡ high.cp
  pub gives : times high.cp (minus high.t low.t) ≡ duty

pub record PassesTakeShares : Type 0 where
  pub has_duty : (course : Course) (duty : Rational) (low high : BranchValue) → IsBetweenValues duty low high
      → HasDuty duty (side_on course low high)
  -- the height that a pass takes is its share of the duty
  pub takes : (from_itself : Bool) (course : Course) (duty : Rational) (low high : BranchValue)
      → IsBetweenValues duty low high
      → minus (height_on from_itself course high) (height_on from_itself course low)
      ≡ share from_itself duty (side_on course low high)
  -- a mix raises no height, and a height is additive in the size
  pub mixes : (from_itself : Bool) (course : Course) (first second to : BranchValue)
      → IsBelow rational_zero first.cp → IsBelow rational_zero second.cp
      → IsMix first second to
      → IsAtMost (height_on from_itself course to) (plus (height_on from_itself course first) (height_on from_itself course second))
  pub additive : (from_itself : Bool) (course : Course) (f g t : Rational)
      → height_on from_itself course (record { cp = plus f g; t = t })
      ≡ plus (height_on from_itself course (record { cp = f; t = t })) (height_on from_itself course (record { cp = g; t = t }))

-- a share is no less from a lower place, and from the place itself no less than above it
pub record SharesRise : Type 0 where
  pub lower : (from_itself : Bool) (place other duty : Rational) (side : SideRun) → IsBelow rational_zero duty
      → HasDuty duty side → IsAtMost other place
      → IsAtMost (share from_itself duty (seen_from place side)) (share from_itself duty (seen_from other side))
  pub itself : (duty : Rational) (side : SideRun) → IsBelow rational_zero duty
      → IsAtMost (share false duty side) (share true duty side)
