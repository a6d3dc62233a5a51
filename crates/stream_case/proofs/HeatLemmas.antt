-- The length of the range of a valid stream, and its heat.
use Rattle.std.proofs.Common.{Bool, ap, arith, false, inl, inr, negsuc, pos, refl, true, ℕ, ℤ, ◌∙◌, ◌≡◌, ◌≤◌, ◌⊎◌}
use Rattle.stream_case.proofs.Words.{Cold, Hot, IsBetween, IsLatent, IsLength, IsRightWay, IsSensible, IsSensibleHeat, IsStreamHeat, IsTemperature}
use Rattle.stream_case.proofs.Words.{IsValidStream, LONGEST_RANGE, MOST_CP, Side, Stream, clamps, false_from_ne_true, high_end, if◌then◌else◌, ints, is_hot}
use Rattle.stream_case.proofs.Words.{low_end, mul-le, shifted, ◌*ℤ◌, ◌-ℤ◌, ◌≤ℤ◌}
use Rattle.stream_case.proofs.EndLemmas.{level-latent}
use Rattle.stream_case.specs.Stream.{counts_above, heat_between, heat_of, heat_over, higher_temperature, is_latent, length_above, load_over, lower_temperature}
use Rattle.stream_case.specs.Stream.{sensible_above}

-- a range, and the same range moved by a contribution
pub record HasLength (actual shifted : ℤ) : Type 0 where
  pub length : IsBetween (pos 1) LONGEST_RANGE actual
  pub same : shifted ≡ actual

HasLength-range : (side : Side) (supply target contribution : ℤ) → IsRightWay side supply target
    → IsTemperature supply → IsTemperature target
    → HasLength ((if is_hot side then supply else target) -ℤ (if is_hot side then target else supply))
    (shifted side (if is_hot side then supply else target) contribution -ℤ shifted side (if is_hot side then target else supply) contribution)
HasLength-range Hot supply target contribution way s t =
    record { length = omega (arith, ints); same = omega (arith, ints) }
HasLength-range Cold supply target contribution way s t =
    record { length = omega (arith, ints); same = omega (arith, ints) }

pub HasLength-sensible : (s : Stream) → IsValidStream s → IsSensible s
    → HasLength (higher_temperature s -ℤ lower_temperature s) (high_end s -ℤ low_end s)
HasLength-sensible s h sensible = HasLength-range s.side s.supply s.target s.contribution sensible.way h.supply h.target

pub range-length : (s : Stream) → IsValidStream s → IsLength (high_end s -ℤ low_end s)
range-length s h = by_heat h.heat
  where
    by_heat : IsSensible s ⊎ IsLatent s → IsLength (high_end s -ℤ low_end s)
    by_heat (inl sensible) = let range = HasLength-sensible s h sensible in omega (arith, ints)
    by_heat (inr latent) = let level = level-latent s latent in omega (arith, ints)

-- ---- sensible heat

within : {low : ℤ} {most n : ℕ} → IsBetween low (pos most) (pos n) → n ≤ most
within h = omega (arith, ints, h.upto)

-- a heat-capacity flow over a part of a range
pub IsSensibleHeat-product : (cp length : ℤ) → IsBetween (pos 0) MOST_CP cp → IsLength length
    → IsSensibleHeat (cp *ℤ length)
IsSensibleHeat-product (pos cp) (pos length) c l =
    let product = mul-le cp length _ _ (within c) (within l) in
    omega (arith, ints)
IsSensibleHeat-product (pos cp) (negsuc length) c l = absurd (omega (arith, ints))
IsSensibleHeat-product (negsuc cp) length c l = absurd (omega (arith, ints))

pub cp-between : (s : Stream) → IsValidStream s → IsBetween (pos 0) MOST_CP s.cp
cp-between s h = by_heat h.heat
  where
    by_heat : IsSensible s ⊎ IsLatent s → IsBetween (pos 0) MOST_CP s.cp
    by_heat (inl sensible) = record { from = omega (arith, ints, sensible.cp); upto = sensible.cp.upto }
    by_heat (inr latent) = omega (arith, ints, latent.cp)

pub heat-between : (s : Stream) (length : ℤ) → IsValidStream s → IsLength length → IsSensibleHeat (s.cp *ℤ length)
heat-between s length h = IsSensibleHeat-product s.cp length (cp-between s h)

-- the part of a range above t is no longer than the range
pub length_above-within : (low high t : ℤ) → low ≤ℤ high → IsBetween (pos 0) (high -ℤ low) (length_above low high t)
length_above-within low high t h = omega (arith, ints, clamps)

pub length_above-between : (t : ℤ) (s : Stream) → IsValidStream s → IsLength (length_above (low_end s) (high_end s) t)
length_above-between t s h =
    let range = range-length s h in
    let part = length_above-within (low_end s) (high_end s) t (omega (arith, ints)) in
    record { from = part.from; upto = omega (arith, ints) }

-- ---- sensible and latent heat

zero-times : (cp x : ℤ) → cp ≡ pos 0 → cp *ℤ x ≡ pos 0
zero-times cp x zero = rw zero (omega (arith, ints))

none_over : (b : Bool) → (if b then pos 0 else pos 0) ≡ pos 0
none_over false = refl
none_over true = refl

-- a sensible stream has no load
pub load_over-sensible : (from_itself : Bool) (t : ℤ) (s : Stream) → IsSensible s → load_over from_itself t s ≡ pos 0
load_over-sensible from_itself t s h =
    ap (λ load. if counts_above from_itself t (high_end s) then load else pos 0) h.load
    ∙ none_over (counts_above from_itself t (high_end s))

pub heat_over-sensible : (from_itself : Bool) (t : ℤ) (s : Stream) → IsSensible s
    → heat_over from_itself t s ≡ sensible_above t s
heat_over-sensible from_itself t s h = let none = load_over-sensible from_itself t s h in omega (arith, ints)

pub heat_of-sensible : (s : Stream) → IsSensible s → heat_of s ≡ heat_between (high_end s) (low_end s) s
heat_of-sensible s h = let none = h.load in omega (arith, ints)

-- a latent stream has nothing else
pub heat_over-latent : (from_itself : Bool) (t : ℤ) (s : Stream) → IsLatent s
    → heat_over from_itself t s ≡ load_over from_itself t s
heat_over-latent from_itself t s h =
    let none = zero-times s.cp (length_above (low_end s) (high_end s) t) h.cp in
    omega (arith, ints)

pub heat_of-latent : (s : Stream) → IsLatent s → heat_of s ≡ s.load
heat_of-latent s h =
    let none = zero-times s.cp (high_end s -ℤ low_end s) h.cp in
    omega (arith, ints)

-- ---- how much it is

some_of : (b : Bool) (load : ℤ) → pos 0 ≤ℤ load → IsBetween (pos 0) load (if b then load else pos 0)
some_of false load h = record { from = omega (arith, ints); upto = h }
some_of true load h = record { from = h; upto = omega (arith, ints) }

pub sensible_above-between : (t : ℤ) (s : Stream) → IsValidStream s → IsSensibleHeat (sensible_above t s)
sensible_above-between t s h = heat-between s (length_above (low_end s) (high_end s) t) h (length_above-between t s h)

pub load-between : (s : Stream) → IsSensible s ⊎ IsLatent s → IsStreamHeat s.load
load-between s (inl sensible) = let none = sensible.load in omega (arith, ints)
load-between s (inr latent) = let load = latent.load in omega (arith, ints)

pub load_over-between : (from_itself : Bool) (t : ℤ) (s : Stream) → IsValidStream s
    → IsStreamHeat (load_over from_itself t s)
load_over-between from_itself t s h =
    let load = load-between s h.heat in
    let some = some_of (counts_above from_itself t (high_end s)) s.load load.from in
    record { from = some.from; upto = omega (arith, ints) }

pub heat_over-between : (from_itself : Bool) (t : ℤ) (s : Stream) → IsValidStream s
    → IsStreamHeat (heat_over from_itself t s)
heat_over-between from_itself t s h = by_heat h.heat
  where
    by_heat : IsSensible s ⊎ IsLatent s → IsStreamHeat (heat_over from_itself t s)
    by_heat (inl sensible) =
        let product = sensible_above-between t s h in
        let is = heat_over-sensible from_itself t s sensible in
        omega (arith, ints)
    by_heat (inr latent) =
        let some = load_over-between from_itself t s h in
        let is = heat_over-latent from_itself t s latent in
        omega (arith, ints)

pub heat_of-between : (s : Stream) → IsValidStream s → IsStreamHeat (heat_of s)
heat_of-between s h = by_heat h.heat
  where
    by_heat : IsSensible s ⊎ IsLatent s → IsStreamHeat (heat_of s)
    by_heat (inl sensible) =
        let product = heat-between s (high_end s -ℤ low_end s) h (range-length s h) in
        let is = heat_of-sensible s sensible in
        omega (arith, ints)
    by_heat (inr latent) =
        let load = latent.load in
        let is = heat_of-latent s latent in
        omega (arith, ints)

-- ---- whether a stream is latent

pub is_latent-sensible : (s : Stream) → IsSensible s → is_latent s ≡ false
is_latent-sensible s h =
    let none = h.load in
    false_from_ne_true (is_latent s) (λ is. omega (arith, ints, is))

pub is_latent-latent : (s : Stream) → IsLatent s → is_latent s ≡ true
is_latent-latent s h = let some = h.load.from in grind (arith, ints)
