-- Sums over the streams of one side.
use Rattle.problem_table.proofs.Words.{ALL_STREAMS, All-take, All-weaker, AreStreams, IsBetween, IsStreamHeat, IsStreamsHeat, IsValidStream, Side, Stream}
use Rattle.problem_table.proofs.Words.{int_sum_by, ints, length-AreStreams, same_side, sum_side}
use Rattle.std.proofs.Common.{All, Bool, List, ap, arith, false, get_or, if◌then◌else◌, length, length-take, pos, refl, sym, take, true, ℕ, ℤ, ◌*◌, ◌+ℤ◌, ◌+◌}
use Rattle.std.proofs.Common.{◌<◌, ◌∙◌, ◌≡◌, ◌≤ℤ◌, ◌≤◌}
use Rattle.sums.proofs.SumLemmas.{int_sum_by-at_most, int_sum_by-le, int_sum_by-more, int_sum_by-not_negative, int_sum_by-same, int_sum_by-zero}

-- what a stream adds to the sum of a side
abbrev term : Side → (Stream → ℤ) → Stream → ℤ
term side f s = if same_side s.side side then f s else pos 0

module _ (side : Side) (f : Stream → ℤ) where
  -- a loop's step
  pub sum_side-more : (streams : List Stream) (i : ℕ) (s : Stream) → i < length streams → s ≡ get_or streams i s
      → sum_side side f (take (i + 1) streams)
      ≡ sum_side side f (take i streams) +ℤ (if same_side s.side side then f s else pos 0)
  sum_side-more streams i s within is =
      int_sum_by-more (term side f) streams i s within
      ∙ ap (λ x. int_sum_by (term side f) (take i streams) +ℤ term side f x) (sym is)

  pub sum_side-same : (g : Stream → ℤ) (streams : List Stream) → All (λ s. f s ≡ g s) streams
      → sum_side side f streams ≡ sum_side side g streams
  sum_side-same g streams same = int_sum_by-same (term side f) (term side g) streams
      (λ k d within. ap (λ x. if same_side (get_or streams k d).side side then x else pos 0) (same k d within))

  pub sum_side-zero : (streams : List Stream) → All (λ s. f s ≡ pos 0) streams → sum_side side f streams ≡ pos 0
  sum_side-zero streams none = int_sum_by-zero (term side f) streams
      (All-weaker (λ s. f s ≡ pos 0) (λ s. term side f s ≡ pos 0) (λ s e. nothing (same_side s.side side) (f s) e) streams none)
    where
      nothing : (b : Bool) (x : ℤ) → x ≡ pos 0 → (if b then x else pos 0) ≡ pos 0
      nothing true x e = e
      nothing false x e = refl

  pub sum_side-le : (g : Stream → ℤ) (streams : List Stream) → All (λ s. f s ≤ℤ g s) streams
      → sum_side side f streams ≤ℤ sum_side side g streams
  sum_side-le g streams le = int_sum_by-le (term side f) (term side g) streams
      (All-weaker (λ s. f s ≤ℤ g s) (λ s. term side f s ≤ℤ term side g s) (λ s h. either (same_side s.side side) (f s) (g s) h) streams le)
    where
      either : (b : Bool) (x y : ℤ) → x ≤ℤ y → (if b then x else pos 0) ≤ℤ (if b then y else pos 0)
      either true x y h = h
      either false x y h = omega (arith, ints)

  -- of terms within bounds
  sum_side-between : {m : ℕ} → ((s : Stream) → IsValidStream s → IsBetween (pos 0) (pos m) (f s))
      → (streams : List Stream) → All IsValidStream streams
      → IsBetween (pos 0) (pos (length streams * m)) (sum_side side f streams)
  sum_side-between {m} bounded streams valid = record {
    from = int_sum_by-not_negative (term side f) streams
        (All-weaker IsValidStream (λ s. pos 0 ≤ℤ term side f s) (λ s h. (on (same_side s.side side) (f s) (bounded s h)).from) streams valid);
    upto = int_sum_by-at_most (term side f) m streams
        (All-weaker IsValidStream (λ s. term side f s ≤ℤ pos m) (λ s h. (on (same_side s.side side) (f s) (bounded s h)).upto) streams valid);
  }
    where
      on : (b : Bool) (x : ℤ) → IsBetween (pos 0) (pos m) x → IsBetween (pos 0) (pos m) (if b then x else pos 0)
      on true x h = h
      on false x h = omega (arith, ints)

  -- of heats of streams of a case, and of the first of them, as a loop goes over them
  pub sum_side-heat : ((s : Stream) → IsValidStream s → IsStreamHeat (f s)) → (streams : List Stream)
      → All IsValidStream streams → length streams ≤ ALL_STREAMS
      → IsStreamsHeat (sum_side side f streams)
  sum_side-heat bounded streams valid few =
      let sum = sum_side-between bounded streams valid in
      record { from = sum.from; upto = omega (arith, ints, sum) }

  pub sum_side-so_far : ((s : Stream) → IsValidStream s → IsStreamHeat (f s))
      → (streams : List Stream) (i : ℕ) → AreStreams streams
      → IsStreamsHeat (sum_side side f (take i streams))
  sum_side-so_far bounded streams i h =
      sum_side-heat bounded (take i streams) (All-take IsValidStream i streams h.each) (omega (arith, length-AreStreams streams h, length-take i streams))
