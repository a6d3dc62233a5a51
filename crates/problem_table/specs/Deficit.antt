-- Deficits, targets and pinches of the streams of a case.
use Rattle.std.specs.Prelude.{◌≡◌, ◌≢◌, ◌⊎◌, Bool, true, false, Option, MatchOption, ℤ, pos, neg_ℤ, ◌+ℤ◌, ◌-ℤ◌, ◌≤ℤ◌, ◌<ℤ◌, List, ◌++◌, map, fold, All, Any, Contains}
use Rattle.std.specs.Int.{int_max}
use Rattle.stream_case.specs.declared.stream.Stream.{Stream}
use Rattle.stream_case.specs.declared.source.Side.TheVariants.{Hot, Cold}
use Rattle.stream_case.specs.declared.limits.TheConstants.{ALL_STREAMS_HEAT}
use Rattle.stream_case.specs.Limits.{IsBetween}
use Rattle.stream_case.specs.Stream.{stream_ends, heat_over, heat_of}
use Rattle.problem_table.specs.Sides.{sum_side}

-- ---- deficits and targets

-- the deficit over t, which counts from itself or not: the cold heat over it less the hot heat over it
abbrev pub deficit_over : Bool → List Stream → ℤ → ℤ
deficit_over from_itself streams t =
    sum_side Cold (heat_over from_itself t) streams -ℤ sum_side Hot (heat_over from_itself t) streams

-- the deficit above t
abbrev pub deficit_above : List Stream → ℤ → ℤ
deficit_above streams t = deficit_over false streams t

-- the deficit from t on, with the latent streams at t itself
abbrev pub deficit_from : List Stream → ℤ → ℤ
deficit_from streams t = deficit_over true streams t

-- a deficit of streams of a case, in W
abbrev pub IsDeficit : ℤ → Type 0
IsDeficit deficit = IsBetween (neg_ℤ ALL_STREAMS_HEAT) ALL_STREAMS_HEAT deficit

-- both deficits at each stream end
abbrev pub end_deficits : List Stream → List ℤ
end_deficits streams =
    map (deficit_above streams) (stream_ends streams) ++ map (deficit_from streams) (stream_ends streams)

-- the greatest of these, and at least 0
abbrev pub hot_target : List Stream → ℤ
hot_target streams = fold int_max (pos 0) (end_deficits streams)

-- the hot target and all hot heat, less all cold heat
abbrev pub cold_target : List Stream → ℤ
cold_target streams = hot_target streams +ℤ sum_side Hot heat_of streams -ℤ sum_side Cold heat_of streams

-- ---- pinches and the reference place

-- the deficit over t is the hot target
abbrev pub IsTightOver : Bool → List Stream → ℤ → Type 0
IsTightOver from_itself streams t = deficit_over from_itself streams t ≡ hot_target streams

-- one of the two deficits at t is the hot target
abbrev pub HasTightDeficit : List Stream → ℤ → Type 0
HasTightDeficit streams t = IsTightOver false streams t ⊎ IsTightOver true streams t

-- a stream end where one of the two is
pub record IsTight (streams : List Stream) (p : ℤ) : Type 0 where
  pub end : Contains (stream_ends streams) p
  pub tight : HasTightDeficit streams p

-- the highest of these
pub record IsReferencePlace (streams : List Stream) (p : ℤ) : Type 0 where
  pub at : IsTight streams p
  pub highest : (t : ℤ) → IsTight streams t → t ≤ℤ p

-- it counts from itself where the deficit above it is not the hot target: then the latent streams at it count as
-- above it
abbrev pub CountsFromItself : List Stream → ℤ → Type 0
CountsFromItself streams p = deficit_above streams p ≢ hot_target streams

-- p lies strictly between the greatest and the least of these
pub record IsInside (xs : List ℤ) (p : ℤ) : Type 0 where
  pub below_some : Any (λ x. p <ℤ x) xs
  pub above_some : Any (λ x. x <ℤ p) xs

pub record IsPinch (streams : List Stream) (p : ℤ) : Type 0 where
  pub at : IsTight streams p
  pub inside : IsInside (stream_ends streams) p

-- the highest of some ends where one of the two deficits is the hot target
pub record IsHighestTight (streams : List Stream) (some_ends : List ℤ) (p : ℤ) : Type 0 where
  pub member : Contains some_ends p
  pub tight : HasTightDeficit streams p
  pub highest : All (λ t. HasTightDeficit streams t → t ≤ℤ p) some_ends

-- that one, or none where no deficit is the hot target
abbrev pub FindsHighestTight : List Stream → List ℤ → Option ℤ → Type 0
FindsHighestTight streams some_ends place =
    MatchOption place (All (λ t. HasTightDeficit streams t → ⊥) some_ends) (IsHighestTight streams some_ends)
