-- Heights of whole numbers, and levels that count as above a place.
use Rattle.network_values.proofs.Words.{*ℤ--ℤ, Decides-is_below, Decides-is_le, IsLatent, Side, Stream, at_most-whole, at_most_from_not_negative, below-whole}
use Rattle.network_values.proofs.Words.{below_from_positive, by_lt_z, clamps, counts_above, height, high_end, int_le-from, int_le-true, int_lt-from}
use Rattle.network_values.proofs.Words.{int_lt-true, int_max, ints, is_above, is_below, is_le, minus, not_negative-minus, positive-minus}
use Rattle.network_values.proofs.Words.{positive_part, rational_cmp, rational_zero, same_from_decides, shifted, times, whole, whole-minus, whole-times}
use Rattle.network_values.proofs.HeightLemmas.{positive_part-above, positive_part-below}
use Rattle.network_values.specs.Penalties.{base_of, unshifted}
use Rattle.std.proofs.Common.{Bool, ap, ap₂, arith, false, int_le, int_lt, pos, sym, true, ℤ, ◌*ℤ◌, ◌-ℤ◌, ◌∙◌, ◌≡◌}
use Rattle.stream_case.specs.declared.source.Side.TheVariants as side

whole_positive_part : (n : ℤ) → positive_part (whole n) ≡ whole (int_max n (pos 0))
whole_positive_part n =
    by_lt_z (pos 0) n (λ above. positive_part-above (whole n) (at_most-whole (pos 0) n (omega (arith, ints, above))) ∙ ap whole
    (omega (arith, ints, clamps, above))) (λ upto. positive_part-below (whole n) (at_most-whole n (pos 0) upto) ∙ ap whole (omega (arith, ints, clamps, upto)))

whole_height : (cp t base : ℤ)
    → height (whole cp) (minus (whole t) (whole base)) ≡ whole (cp *ℤ int_max (t -ℤ base) (pos 0))
whole_height cp t base =
    ap (λ x. times (whole cp) (positive_part x)) (whole-minus t base)
    ∙ ap (times (whole cp)) (whole_positive_part (t -ℤ base))
    ∙ whole-times cp (int_max (t -ℤ base) (pos 0))

-- the height that is lost from t to u
pub height_lost : (cp t u base : ℤ)
    → minus (height (whole cp) (minus (whole t) (whole base))) (height (whole cp) (minus (whole u) (whole base)))
    ≡ whole (cp *ℤ (int_max (t -ℤ base) (pos 0) -ℤ int_max (u -ℤ base) (pos 0)))
height_lost cp t u base =
    ap₂ minus (whole_height cp t base) (whole_height cp u base)
    ∙ whole-minus (cp *ℤ int_max (t -ℤ base) (pos 0)) (cp *ℤ int_max (u -ℤ base) (pos 0))
    ∙ ap whole (sym (*ℤ--ℤ cp (int_max (t -ℤ base) (pos 0)) (int_max (u -ℤ base) (pos 0))))

-- ---- levels

-- whole numbers compare as their distance does with 0
pub is_above-whole : (from_itself : Bool) (place level : ℤ)
    → is_above from_itself (minus (whole level) (whole place)) ≡ counts_above from_itself place level
is_above-whole true place level = let d = minus (whole level) (whole place) in
    same_from_decides (is_le (rational_cmp rational_zero d)) (int_le place level) (Decides-is_le rational_zero d) (
      λ e. not_negative-minus (whole place) (whole level) (at_most-whole place level (int_le-true place level e)),
      λ h. let more = (at_most_from_not_negative (whole place) (whole level) h).cross in
          int_le-from place level (omega (arith, ints, more)),
    )
is_above-whole false place level = let d = minus (whole level) (whole place) in
    same_from_decides (is_below rational_zero d) (int_lt place level) (Decides-is_below rational_zero d) (
      λ e. positive-minus (whole place) (whole level) (below-whole place level (int_lt-true place level e)),
      λ h. let more = (below_from_positive (whole place) (whole level) h).cross in
          int_lt-from place level (omega (arith, ints, more)),
    )

-- a level counts as above an unshifted place just where the shifted level counts as above the place
pub counts_above-unshifted : (from_itself : Bool) (on : Side) (place level c : ℤ)
    → counts_above from_itself (unshifted on place c) level ≡ counts_above from_itself place (shifted on level c)
counts_above-unshifted true side.Hot place level c = grind (arith, ints)
counts_above-unshifted from_itself on place level c = grind (arith, ints)

high_end-latent : (s : Stream) → IsLatent s → shifted s.side s.supply s.contribution ≡ high_end s
high_end-latent s h = grind (arith, h.level)

-- the level of a latent stream, by its distance and by its shifted temperature
pub level_counts : (from_itself : Bool) (place : ℤ) (s : Stream) → IsLatent s
    → is_above from_itself (minus (whole s.supply) (base_of place s)) ≡ counts_above from_itself place (high_end s)
level_counts from_itself place s latent = is_above-whole from_itself (unshifted s.side place s.contribution) s.supply
    ∙ counts_above-unshifted from_itself s.side place s.supply s.contribution
    ∙ ap (counts_above from_itself place) (high_end-latent s latent)
