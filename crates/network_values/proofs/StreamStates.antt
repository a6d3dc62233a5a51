-- The sizes, states and levels of streams: sensible ones first, then latent ones.
use Rattle.network_values.proofs.Words.{Case, IsBelow, IsLatent, IsSensible, IsValidStream, Network, Side, Stream, below-whole, first_part_of_load}
use Rattle.network_values.proofs.Words.{first_state, fixed_level, full_size, high_end, ints, is_hot, is_latent, is_latent-latent, is_latent-sensible}
use Rattle.network_values.proofs.Words.{is_latent_branch, last_part_of_load, last_state, low_end, option_map_or, rational_zero, shifted, stream_at}
use Rattle.network_values.proofs.Words.{stream_level, whole}
use Rattle.network_values.specs.Penalties.{unshifted}
use Rattle.std.proofs.Common.{None, Some, ap, arith, false, if◌then◌else◌, pos, slice_get, sym, ℕ, ℤ, ◌+ℤ◌, ◌∙◌, ◌≡◌, ⊎_elim}
use Rattle.stream_case.specs.declared.source.Side.TheVariants as side
use Rattle.stream_case.specs.declared.source.Source.TheVariants as source

-- ---- sensible streams

pub full_size-sensible : (s : Stream) → IsSensible s → full_size s ≡ whole s.cp
full_size-sensible s h = let none = h.load in ap whole (omega (arith, ints))

pub first_state-sensible : (s : Stream) → IsSensible s → first_state s ≡ whole s.supply
first_state-sensible s h = ap (λ b. if b then first_part_of_load s.side else whole s.supply) (is_latent-sensible s h)

pub last_state-sensible : (s : Stream) → IsSensible s → last_state s ≡ whole s.target
last_state-sensible s h = ap (λ b. if b then last_part_of_load s.side else whole s.target) (is_latent-sensible s h)

pub fixed_level-sensible : (case : Case) (i : ℕ) (s : Stream) → slice_get case.streams i ≡ Some s
    → IsSensible s → fixed_level case (source.Stream i) ≡ None
fixed_level-sensible case i s at h =
    ap stream_level at ∙ ap (λ b. if b then Some s.supply else None) (is_latent-sensible s h)

-- ---- latent streams

pub full_size-latent : (s : Stream) → IsLatent s → full_size s ≡ whole s.load
full_size-latent s h = let none = h.cp in ap whole (omega (arith, ints))

pub first_state-latent : (s : Stream) → IsLatent s → first_state s ≡ first_part_of_load s.side
first_state-latent s h = ap (λ b. if b then first_part_of_load s.side else whole s.supply) (is_latent-latent s h)

pub last_state-latent : (s : Stream) → IsLatent s → last_state s ≡ last_part_of_load s.side
last_state-latent s h = ap (λ b. if b then last_part_of_load s.side else whole s.target) (is_latent-latent s h)

pub fixed_level-latent : (case : Case) (i : ℕ) (s : Stream) → slice_get case.streams i ≡ Some s → IsLatent s
    → fixed_level case (source.Stream i) ≡ Some s.supply
fixed_level-latent case i s at h =
    ap stream_level at ∙ ap (λ b. if b then Some s.supply else None) (is_latent-latent s h)

-- ---- all streams

pub full_size-positive : (s : Stream) → IsValidStream s → IsBelow rational_zero (full_size s)
full_size-positive s h =
    below-whole (pos 0) (s.cp +ℤ s.load) (⊎_elim (λ sensible. omega (arith, ints, sensible.load, sensible.cp.from))
    (λ latent. omega (arith, ints, latent.cp, latent.load.from)) h.heat)

pub is_latent_branch-is : (case : Case) (network : Network) (branch : ℕ) (s : Stream)
    → slice_get case.streams (stream_at network.branches branch) ≡ Some s
    → is_latent_branch case network branch ≡ is_latent s
unfolding is_latent_branch
is_latent_branch-is case network branch s at = ap (λ found. option_map_or is_latent found false) at

-- ---- the states of a sensible stream are the ends of its shifted range, unshifted

-- a hot stream begins at the high end of its range and ends at the low one, a cold one the other way round
abbrev pub first_end : Side → Stream → ℤ
first_end side.Hot s = high_end s
first_end side.Cold s = low_end s

abbrev pub last_end : Side → Stream → ℤ
last_end side.Hot s = low_end s
last_end side.Cold s = high_end s

unshifted-shifted : (on : Side) (t c : ℤ) → unshifted on (shifted on t c) c ≡ t
unshifted-shifted side.Hot t c = omega (arith, ints)
unshifted-shifted side.Cold t c = omega (arith, ints)

pub first_state-unshifted : (on : Side) (s : Stream) → IsSensible s → s.side ≡ on
    → whole (unshifted on (first_end on s) s.contribution) ≡ first_state s
first_state-unshifted side.Hot s sensible is =
    ap (λ a. whole (unshifted side.Hot (shifted a (if is_hot a then s.supply else s.target) s.contribution) s.contribution)) is
    ∙ ap whole (unshifted-shifted side.Hot s.supply s.contribution) ∙ sym (first_state-sensible s sensible)
first_state-unshifted side.Cold s sensible is =
    ap (λ a. whole (unshifted side.Cold (shifted a (if is_hot a then s.target else s.supply) s.contribution) s.contribution)) is
    ∙ ap whole (unshifted-shifted side.Cold s.supply s.contribution) ∙ sym (first_state-sensible s sensible)

pub last_state-unshifted : (on : Side) (s : Stream) → IsSensible s → s.side ≡ on
    → whole (unshifted on (last_end on s) s.contribution) ≡ last_state s
last_state-unshifted side.Hot s sensible is =
    ap (λ a. whole (unshifted side.Hot (shifted a (if is_hot a then s.target else s.supply) s.contribution) s.contribution)) is
    ∙ ap whole (unshifted-shifted side.Hot s.target s.contribution) ∙ sym (last_state-sensible s sensible)
last_state-unshifted side.Cold s sensible is =
    ap (λ a. whole (unshifted side.Cold (shifted a (if is_hot a then s.supply else s.target) s.contribution) s.contribution)) is
    ∙ ap whole (unshifted-shifted side.Cold s.target s.contribution) ∙ sym (last_state-sensible s sensible)
