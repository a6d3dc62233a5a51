-- The full size of a stream of a case and its first state are whole numbers within the limits of a case.
use Rattle.network_audit.proofs.Words.{HIGHEST_LEVEL, IsAtMost, IsBetween, IsLatent, IsSensible, IsValidStream, MOST_LOAD, Side, Stream, at_most-whole}
use Rattle.network_audit.proofs.Words.{first_part_of_load, first_state, full_size, ints, is_latent, whole}
use Rattle.network_audit.proofs.Sized.{IsSized, sized-whole}
use Rattle.std.proofs.Common.{Bool, arith, false, if◌then◌else◌, inl, inr, pos, true, unsigned_abs, ℕ, ◌+ℤ◌, ◌≤◌, ◌⊎◌}
use Rattle.stream_case.specs.declared.source.Side.TheVariants as side

module _ (s : Stream) (valid : IsValidStream s) where
  size-between : IsBetween (pos 0) MOST_LOAD (s.cp +ℤ s.load)
  size-between = by valid.heat
    where
      by : IsSensible s ⊎ IsLatent s → IsBetween (pos 0) MOST_LOAD (s.cp +ℤ s.load)
      by (inl sensible) = record { from = omega (arith, ints); upto = omega (arith, ints) }
      by (inr latent) = record { from = omega (arith, ints); upto = omega (arith, ints) }

  pub full_size-sized : (m : ℕ) → unsigned_abs MOST_LOAD ≤ m → IsSized 1 m (full_size s)
  full_size-sized m larger =
      sized-whole 1 m (s.cp +ℤ s.load) (omega arith) (omega (arith, ints, size-between.from, size-between.upto, larger))

  pub full_size-most : IsAtMost (full_size s) (whole MOST_LOAD)
  full_size-most = at_most-whole (s.cp +ℤ s.load) MOST_LOAD size-between.upto

  pub first_state-sized : (m : ℕ) → unsigned_abs HIGHEST_LEVEL ≤ m → IsSized 1 m (first_state s)
  first_state-sized m larger = by (is_latent s)
    where
      part : (of : Side) → IsSized 1 m (first_part_of_load of)
      part side.Hot = sized-whole 1 m (pos 1) (omega arith) (omega (arith, larger))
      part side.Cold = sized-whole 1 m (pos 0) (omega arith) (omega arith)

      by : (latent : Bool) → IsSized 1 m (if latent then first_part_of_load s.side else whole s.supply)
      by true = part s.side
      by false = sized-whole 1 m s.supply (omega arith) (omega (arith, ints, larger))
