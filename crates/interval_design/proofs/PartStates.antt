-- The two kinds of parts of a stream, on an interval and at its level, and the states at the ends of each.
use Rattle.interval_design.proofs.Words.{IsInterval, IsLatent, IsPiece, IsSensible, IsStreamPart, IsValidStream, Part, Rational, Side, Stream, change}
use Rattle.interval_design.proofs.Words.{entered_at, entered_state, first_part_of_load, first_state, high_end, interval_falls, ints, is_hot}
use Rattle.interval_design.proofs.Words.{is_latent-latent, is_latent-sensible, last_part_of_load, last_state, left_at, left_state, level-latent}
use Rattle.interval_design.proofs.Words.{low_end, shifted, unshifted, whole, whole-minus}
use Rattle.std.proofs.Common.{AllPairs, List, ap, arith, if◌then◌else◌, inl, inr, pos, refl, sym, ℕ, ℤ, ⊎_elim, ◌+ℤ◌, ◌-ℤ◌, ◌<ℤ◌, ◌∙◌, ◌≡◌, ◌≤ℤ◌, ◌⊎◌}
use Rattle.interval_design.proofs.CaseFlow.{places}
use Rattle.stream_case.specs.declared.source.Side.TheVariants as side

-- ---- the two kinds of parts

pub record LiesOnInterval (places : List ℤ) (s : Stream) (p : Part) : Type 0 where
  pub sensible : IsSensible s
  pub interval : IsInterval places p.high p.low

pub record LiesAtLevel (s : Stream) (p : Part) : Type 0 where
  pub latent : IsLatent s
  pub high : p.high ≡ high_end s
  pub low : p.low ≡ high_end s

pub sensible_interval : (places : List ℤ) (s : Stream) (high low : ℤ) → IsSensible s
    → IsPiece places s high low → IsInterval places high low
sensible_interval places s high low sensible (inl interval) = interval
sensible_interval places s high low sensible (inr latent) =
    let none = sensible.load in
    let some = latent.0.load.from in
    absurd (omega (arith, ints))

pub latent_level : (places : List ℤ) (s : Stream) (p : Part) → IsLatent s → AllPairs (λ a b. b <ℤ a) places
    → IsPiece places s p.high p.low
    → low_end s ≤ℤ p.low → p.high ≤ℤ high_end s → LiesAtLevel s p
latent_level places s p latent falls (inl interval) from upto =
    let level = level-latent s latent in
    let less = interval_falls places p.high p.low falls interval in
    absurd (omega (arith, ints))
latent_level places s p latent falls (inr is) from upto =
    let level = level-latent s latent in
    let same = is.1 in
    record { latent = latent; high = omega (arith, ints); low = omega (arith, ints) }

pub lies : {streams : List Stream} {of : Side} {number : ℕ} (places : List ℤ) (s : Stream) (p : Part) → IsValidStream s
    → AllPairs (λ a b. b <ℤ a) places → IsStreamPart streams places of number s p
    → LiesOnInterval places s p ⊎ LiesAtLevel s p
lies places s p valid falls is =
    ⊎_elim (λ sensible. inl (record {
      sensible = sensible;
      interval = sensible_interval places s p.high p.low sensible is.piece;
    })) (λ latent.
    let at_level = latent_level places s p latent falls is.piece is.from is.upto in
    inr at_level) valid.heat

-- the level of a latent stream
pub high_end-latent : (s : Stream) → IsLatent s → high_end s ≡ shifted s.side s.supply s.contribution
high_end-latent s h = by s.side s.supply s.target s.contribution h.level
  where
    by : (of : Side) (supply target contribution : ℤ) → supply ≡ target
        → shifted of (if is_hot of then supply else target) contribution ≡ shifted of supply contribution
    by side.Hot supply target contribution level = refl
    by side.Cold supply target contribution level = ap (λ t. shifted side.Cold t contribution) (sym level)

-- ---- states

-- the temperature of a stream at a place of the shifted scale
abbrev pub own_temperature : Stream → ℤ → Rational
own_temperature s place = whole (unshifted s.side place s.contribution)

pub entered-sensible : (s : Stream) (p : Part) → IsSensible s
    → entered_state p s ≡ own_temperature s (entered_at s.side p)
entered-sensible s p h =
    ap (λ b. if b then first_state s else own_temperature s (entered_at s.side p)) (is_latent-sensible s h)

pub left-sensible : (s : Stream) (p : Part) → IsSensible s → left_state p s ≡ own_temperature s (left_at s.side p)
left-sensible s p h =
    ap (λ b. if b then last_state s else own_temperature s (left_at s.side p)) (is_latent-sensible s h)

pub entered-latent : (s : Stream) (p : Part) → IsLatent s → entered_state p s ≡ first_state s
entered-latent s p h =
    ap (λ b. if b then first_state s else own_temperature s (entered_at s.side p)) (is_latent-latent s h)

pub left-latent : (s : Stream) (p : Part) → IsLatent s → left_state p s ≡ last_state s
left-latent s p h = ap (λ b. if b then last_state s else own_temperature s (left_at s.side p)) (is_latent-latent s h)

pub change_over : (of : Side) (p : Part) (c : ℤ)
    → change of (whole (unshifted of (entered_at of p) c)) (whole (unshifted of (left_at of p) c))
    ≡ whole (p.high -ℤ p.low)
change_over side.Hot p c =
    let same : (p.high +ℤ c) -ℤ (p.low +ℤ c) ≡ p.high -ℤ p.low = omega (arith, ints) in
    whole-minus (p.high +ℤ c) (p.low +ℤ c) ∙ ap whole same
change_over side.Cold p c =
    let same : (p.high -ℤ c) -ℤ (p.low -ℤ c) ≡ p.high -ℤ p.low = omega (arith, ints) in
    whole-minus (p.high -ℤ c) (p.low -ℤ c) ∙ ap whole same

-- a latent stream gives or takes its whole load
pub load_change : (of : Side) → change of (first_part_of_load of) (last_part_of_load of) ≡ whole (pos 1)
load_change side.Hot = whole-minus (pos 1) (pos 0)
load_change side.Cold = whole-minus (pos 1) (pos 0)
