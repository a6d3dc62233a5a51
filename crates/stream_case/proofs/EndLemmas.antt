-- The shifted ends of valid streams, and the outermost of them.
use Rattle.std.proofs.Common.{All, List, [], ap, arith, fold, get_or, if◌then◌else◌, inl, inr, length, refl, subst, sym, take, ℕ, ℤ, ◌*◌, ◌++◌, ◌+◌, ◌<ℤ◌, ◌<◌}
use Rattle.std.proofs.Common.{◌∙◌, ◌∷◌, ◌≡◌, ◌≤ℤ◌, ◌⊎◌}
use Rattle.stream_case.proofs.Words.{All-cons, All-head, All-nil, All-tail, Cold, HIGHEST_SHIFTED, Hot, IsBetween, IsContribution, IsLatent, IsRightWay}
use Rattle.stream_case.proofs.Words.{IsSensible, IsShifted, IsTemperature, IsValidStream, LOWEST_SHIFTED, Side, Stream, clamps, fold-append, high_end, ints}
use Rattle.stream_case.proofs.Words.{is_hot, low_end, outer_of, outermost, shifted, stream_ends, take_more}

-- the ends of a shifted range: in order, one where the stream is latent, and within bounds
pub record AreEnds (low high : ℤ) : Type 0 where
  pub order : low ≤ℤ high
  pub from : LOWEST_SHIFTED ≤ℤ low
  pub upto : high ≤ℤ HIGHEST_SHIFTED

AreEnds-shifted : (side : Side) (supply target contribution : ℤ)
    → IsRightWay side supply target ⊎ (supply ≡ target) → IsTemperature supply
    → IsTemperature target → IsContribution contribution
    → AreEnds (shifted side (if is_hot side then target else supply) contribution) (shifted side (if is_hot side then supply else target) contribution)
AreEnds-shifted Hot supply target contribution way s t c =
    record { order = omega (arith, ints); from = omega (arith, ints); upto = omega (arith, ints) }
AreEnds-shifted Cold supply target contribution way s t c =
    record { order = omega (arith, ints); from = omega (arith, ints); upto = omega (arith, ints) }

pub AreEnds-IsValidStream : (s : Stream) → IsValidStream s → AreEnds (low_end s) (high_end s)
AreEnds-IsValidStream s h =
    AreEnds-shifted s.side s.supply s.target s.contribution (way_or_level s h.heat) h.supply h.target h.contribution
  where
    way_or_level : (s : Stream) → IsSensible s ⊎ IsLatent s
        → IsRightWay s.side s.supply s.target ⊎ (s.supply ≡ s.target)
    way_or_level s (inl sensible) = inl sensible.way
    way_or_level s (inr latent) = inr latent.level

-- those of a sensible stream differ
pub order-sensible : (s : Stream) → IsSensible s → low_end s <ℤ high_end s
order-sensible s h = by_side s.side s.supply s.target s.contribution h.way
  where
    by_side : (side : Side) (supply target contribution : ℤ) → IsRightWay side supply target
        → shifted side (if is_hot side then target else supply) contribution <ℤ shifted side (if is_hot side then supply else target) contribution
    by_side Hot supply target contribution way = omega (arith, ints)
    by_side Cold supply target contribution way = omega (arith, ints)

-- those of a latent stream are its one level
pub level-latent : (s : Stream) → IsLatent s → high_end s ≡ low_end s
level-latent s h = by_side s.side s.supply s.target s.contribution h.level
  where
    by_side : (side : Side) (supply target contribution : ℤ) → supply ≡ target
        → shifted side (if is_hot side then supply else target) contribution
        ≡ shifted side (if is_hot side then target else supply) contribution
    by_side Hot supply target contribution level = omega (arith, ints)
    by_side Cold supply target contribution level = omega (arith, ints)

-- ---- the ends of a list of streams

pub stream_ends-append : (xs ys : List Stream) → stream_ends (xs ++ ys) ≡ stream_ends xs ++ stream_ends ys
stream_ends-append [] ys = refl
stream_ends-append (x ∷ xs) ys = ap (λ ends. high_end x ∷ low_end x ∷ ends) (stream_ends-append xs ys)

-- a loop's step
pub stream_ends-more : (streams : List Stream) (i : ℕ) (s : Stream) → i < length streams → s ≡ get_or streams i s
    → stream_ends (take (i + 1) streams) ≡ stream_ends (take i streams) ++ high_end s ∷ low_end s ∷ []
stream_ends-more streams i s within is =
    ap stream_ends (take_more streams i s within ∙ ap (λ x. take i streams ++ x ∷ []) (sym is))
    ∙ stream_ends-append (take i streams) (s ∷ [])

pub length-stream_ends : (streams : List Stream) → length (stream_ends streams) ≡ 2 * length streams
length-stream_ends [] = refl
length-stream_ends (s ∷ ss) = omega (arith, length-stream_ends ss)

-- the ends of a stream are stream ends
pub each_end : (P : ℤ → Type 0) (streams : List Stream) → All P (stream_ends streams)
    → All (λ s. P (high_end s) × P (low_end s)) streams
each_end P [] h = All-nil (λ s. P (high_end s) × P (low_end s))
each_end P (s ∷ ss) h =
    let rest = All-tail P (high_end s) (low_end s ∷ stream_ends ss) h in
    All-cons (λ x. P (high_end x) × P (low_end x)) s ss (All-head P (high_end s) (low_end s ∷ stream_ends ss) h, All-head P (low_end s) (stream_ends ss) rest)
    (each_end P ss (All-tail P (low_end s) (stream_ends ss) rest))

pub stream_ends-between : (streams : List Stream) → All IsValidStream streams → All IsShifted (stream_ends streams)
stream_ends-between [] each = All-nil IsShifted
stream_ends-between (s ∷ ss) each =
    let ends = AreEnds-IsValidStream s (All-head IsValidStream s ss each) in
    let rest = stream_ends-between ss (All-tail IsValidStream s ss each) in
    All-cons IsShifted (high_end s) (low_end s ∷ stream_ends ss) (record { from = omega (arith, ints); upto = ends.upto })
    (All-cons IsShifted (low_end s) (stream_ends ss) (record { from = ends.from; upto = omega (arith, ints) }) rest)

-- ---- the outermost end

pub outermost-cons : (side : Side) (x : ℤ) (xs : List ℤ) → outermost side (x ∷ xs) ≡ fold (outer_of side) x xs
outermost-cons Hot x xs = refl
outermost-cons Cold x xs = refl

outer_of-once : (side : Side) (x : ℤ) → outer_of side x x ≡ x
outer_of-once Hot x = omega (arith, ints, clamps)
outer_of-once Cold x = omega (arith, ints, clamps)

outer_of-between : (side : Side) (low high a b : ℤ) → IsBetween low high a → IsBetween low high b
    → IsBetween low high (outer_of side a b)
outer_of-between Hot low high a b h k = omega (arith, ints, clamps)
outer_of-between Cold low high a b h k = omega (arith, ints, clamps)

-- a loop's step, and all of them, begun at the first one
pub outer_ends-more : (side : Side) (a so_far : ℤ) (streams : List Stream) (i : ℕ) (s : Stream)
    → i < length streams → s ≡ get_or streams i s
    → so_far ≡ fold (outer_of side) a (stream_ends (take i streams))
    → outer_of side (outer_of side so_far (high_end s)) (low_end s)
    ≡ fold (outer_of side) a (stream_ends (take (i + 1) streams))
outer_ends-more side a so_far streams i s within is value =
    ap (λ b. outer_of side (outer_of side b (high_end s)) (low_end s)) value
    ∙ sym (ap (fold (outer_of side) a) (stream_ends-more streams i s within is)
    ∙ fold-append (outer_of side) a (stream_ends (take i streams)) (high_end s ∷ low_end s ∷ []))

pub outer_ends-all : (side : Side) (streams : List Stream) (s : Stream) → 0 < length streams → s ≡ get_or streams 0 s
    → fold (outer_of side) (high_end s) (stream_ends streams) ≡ outermost side (stream_ends streams)
outer_ends-all side [] s some is = absurd (omega arith)
outer_ends-all side (x ∷ xs) s some is =
    ap (λ y. fold (outer_of side) (outer_of side (high_end y) (high_end x)) (low_end x ∷ stream_ends xs)) is
    ∙ ap (λ e. fold (outer_of side) e (low_end x ∷ stream_ends xs)) (outer_of-once side (high_end x))
    ∙ sym (outermost-cons side (high_end x) (low_end x ∷ stream_ends xs))

fold-between : (side : Side) (low high a : ℤ) (xs : List ℤ) → IsBetween low high a → All (IsBetween low high) xs
    → IsBetween low high (fold (outer_of side) a xs)
fold-between side low high a [] within each = within
fold-between side low high a (x ∷ xs) within each =
    fold-between side low high (outer_of side a x) xs (outer_of-between side low high a x within (All-head (IsBetween low high) x xs each))
    (All-tail (IsBetween low high) x xs each)

pub outermost-between : (side : Side) (streams : List Stream) → All IsValidStream streams
    → IsShifted (outermost side (stream_ends streams))
outermost-between Hot [] each = omega (arith, ints)
outermost-between Cold [] each = omega (arith, ints)
outermost-between side (s ∷ ss) each =
    let ends = stream_ends-between (s ∷ ss) each in
    let rest = low_end s ∷ stream_ends ss in
    subst IsShifted (sym (outermost-cons side (high_end s) rest))
    (fold-between side LOWEST_SHIFTED HIGHEST_SHIFTED (high_end s) rest (All-head IsShifted (high_end s) rest ends) (All-tail IsShifted (high_end s) rest ends))
