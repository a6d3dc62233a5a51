-- Heights and shares of mixes, and on the course of a stream.
use Rattle.network_values.proofs.Words.{Between, BranchValue, Course, HasDuty, IsAtMost, IsBelow, IsBetweenValues, IsMix, Latent, Level, MixesLoseHeight}
use Rattle.network_values.proofs.Words.{PassesTakeShares, Rational, Sensible, SharesRise, SideRun, at_most-minus_minus, at_most-plus_plus, at_most-times_left}
use Rattle.network_values.proofs.Words.{at_most_from_below, at_most_from_same, at_most_refl, height, height_above, height_on, high_of, low_of, minus}
use Rattle.network_values.proofs.Words.{minus-interchange, minus-minus_same, minus-self, not_negative-plus, not_negative-times, plus, plus-times, plus-zero}
use Rattle.network_values.proofs.Words.{positive-plus, positive_part, rational_zero, seen_from, share, side_on, subst₂, times, times-minus}
use Rattle.std.proofs.Common.{Bool, ap, ap₂, arith, false, subst, sym, true, ◌∙◌, ◌≡◌}
use Rattle.network_values.proofs.HeightLemmas.{at_most-positive_part, not_negative-positive_part, positive_part-least, times-positive_part}
use Rattle.network_values.proofs.ShareLemmas.{HasDuty-seen, high_of-seen, hot_share_at_least, is_above-itself, low_of-seen}

parts-lose : (f g u v : Rational) → IsAtMost rational_zero f → IsAtMost rational_zero g
    → IsAtMost (positive_part (plus (times f u) (times g v))) (plus (height f u) (height g v))
parts-lose f g u v some other =
    positive_part-least (plus (times f u) (times g v)) (plus (height f u) (height g v)) (not_negative-plus (height f u) (height g v)
    (not_negative-times f (positive_part u) some (not_negative-positive_part u)) (not_negative-times g (positive_part v) other (not_negative-positive_part v)))
    (at_most-plus_plus (times f u) (height f u) (times g v) (height g v) (at_most-times_left f u (positive_part u) some (at_most-positive_part u))
    (at_most-times_left g v (positive_part v) other (at_most-positive_part v)))

-- sizes times distances add up
mixed-distance : (base : Rational) (first second to : BranchValue) → IsMix first second to
    → times to.cp (minus to.t base) ≡ plus (times first.cp (minus first.t base)) (times second.cp (minus second.t base))
mixed-distance base first second to mix =
    times-minus to.cp to.t base ∙ ap₂ minus mix.heat (ap (λ x. times x base) mix.size
    ∙ plus-times first.cp second.cp base)
    ∙ minus-interchange (times first.cp first.t) (times second.cp second.t) (times first.cp base) (times second.cp base)
    ∙ ap₂ plus (sym (times-minus first.cp first.t base)) (sym (times-minus second.cp second.t base))

mix-loses : (base : Rational) (first second to : BranchValue) → IsBelow rational_zero first.cp
    → IsBelow rational_zero second.cp → IsMix first second to
    → IsAtMost (height_above base to) (plus (height_above base first) (height_above base second))
mix-loses base first second to some other mix =
    let two = at_most_from_below rational_zero second.cp other in
    let both = at_most_from_below rational_zero to.cp (subst (IsBelow rational_zero) (sym mix.size) (positive-plus first.cp second.cp some two)) in
    subst (λ x. IsAtMost x (plus (height_above base first) (height_above base second)))
    (ap positive_part (sym (mixed-distance base first second to mix)) ∙ sym (times-positive_part to.cp (minus to.t base) both))
    (parts-lose first.cp second.cp (minus first.t base) (minus second.t base) (at_most_from_below rational_zero first.cp some) two)

pub mixes_lose : MixesLoseHeight
mixes_lose = record { parts = parts-lose; mixes = mix-loses }

-- Heights and shares on the course of a stream.

has_duty-on : (course : Course) (duty : Rational) (low high : BranchValue) → IsBetweenValues duty low high
    → HasDuty duty (side_on course low high)
has_duty-on (Sensible base) duty low high between =
    (between.some, ap (times high.cp) (minus-minus_same high.t low.t base) ∙ between.gives)
has_duty-on (Latent distance) duty low high between = tt

takes-on : (from_itself : Bool) (course : Course) (duty : Rational) (low high : BranchValue)
    → IsBetweenValues duty low high
    → minus (height_on from_itself course high) (height_on from_itself course low)
    ≡ share from_itself duty (side_on course low high)
takes-on from_itself (Sensible base) duty low high between =
    ap (λ f. minus (height high.cp (minus high.t base)) (height f (minus low.t base))) between.size
takes-on from_itself (Latent distance) duty low high between =
    grind (arith, between.size, times-minus high.cp high.t low.t, between.gives, minus-self rational_zero)

pub height_on-mixed : (from_itself : Bool) (course : Course) (first second to : BranchValue)
    → IsBelow rational_zero first.cp → IsBelow rational_zero second.cp
    → IsMix first second to → IsAtMost (height_on from_itself course to) (plus (height_on from_itself course first) (height_on from_itself course second))
height_on-mixed from_itself (Sensible base) first second to some other mix =
    mixes_lose.mixes base first second to some other mix
height_on-mixed from_itself (Latent distance) first second to some other mix =
    grind (arith, at_most_from_same, at_most_refl, mix.heat, plus-zero rational_zero)

pub height_on-additive : (from_itself : Bool) (course : Course) (f g t : Rational)
    → height_on from_itself course (record { cp = plus f g; t = t })
    ≡ plus (height_on from_itself course (record { cp = f; t = t }))
    (height_on from_itself course (record { cp = g; t = t }))
height_on-additive from_itself (Sensible base) f g t = plus-times f g (positive_part (minus t base))
height_on-additive from_itself (Latent distance) f g t = grind (arith, plus-times, plus-zero)

pub passes_take : PassesTakeShares
passes_take =
    record { has_duty = has_duty-on; takes = takes-on; mixes = height_on-mixed; additive = height_on-additive }

-- ---- from lower places

share-lower : (from_itself : Bool) (place other duty : Rational) (side : SideRun)
    → IsBelow rational_zero duty → HasDuty duty side → IsAtMost other place
    → IsAtMost (share from_itself duty (seen_from place side)) (share from_itself duty (seen_from other side))
share-lower from_itself place other duty side positive has lower =
    hot_share_at_least from_itself duty positive (seen_from other side) (seen_from place side) (HasDuty-seen other duty side has)
    (HasDuty-seen place duty side has) (record {
      high = subst₂ IsAtMost (sym (high_of-seen place side)) (sym (high_of-seen other side))
          (at_most-minus_minus (high_of side) (high_of side) other place (at_most_refl (high_of side)) lower);
      low = subst₂ IsAtMost (sym (low_of-seen place side)) (sym (low_of-seen other side))
          (at_most-minus_minus (low_of side) (low_of side) other place (at_most_refl (low_of side)) lower);
    })

share-itself : (duty : Rational) (side : SideRun) → IsBelow rational_zero duty
    → IsAtMost (share false duty side) (share true duty side)
share-itself duty (Between size low high) positive = at_most_refl (share false duty (Between size low high))
share-itself duty (Level at) positive =
    grind (arith, is_above-itself at, at_most_refl, at_most_from_below rational_zero duty positive)

pub shares_rise : SharesRise
shares_rise = record { lower = share-lower; itself = share-itself }
