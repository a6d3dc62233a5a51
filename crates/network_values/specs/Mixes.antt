-- Mixing flows raises no height.
use Rattle.fractions.specs.Rationals.{IsAtMost, IsBelow, Rational, minus, plus, rational_zero, times}
use Rattle.network_values.specs.Heights.{height, positive_part}
use Rattle.network_values.specs.Values.{IsMix}
use Rattle.network_values.specs.declared.values.BranchValue.{BranchValue}

-- the height of a branch above a base
abbrev pub height_above : Rational → BranchValue → Rational
height_above base value = height value.cp (minus value.t base)

-- the positive part of a sum of distances times sizes is at most the sum of the heights; so the result of a mix is
-- above no base higher than both branches together
pub record MixesLoseHeight : Type 0 where
  pub parts : (f g u v : Rational) → IsAtMost rational_zero f → IsAtMost rational_zero g
      → IsAtMost (positive_part (plus (times f u) (times g v))) (plus (height f u) (height g v))
  pub mixes : (base : Rational) (first second to : BranchValue) → IsBelow rational_zero first.cp
      → IsBelow rational_zero second.cp → IsMix first second to
      → IsAtMost (height_above base to) (plus (height_above base first) (height_above base second))
