-- The composite curves and the grand composite curve.
use Rattle.std.specs.Prelude.{◌≡◌, ℤ, ◌-ℤ◌, ◌<ℤ◌, Bool, ◌&&◌, List, [], ◌∷◌, Contains}
use Rattle.std.specs.List.{flat_map, list_any}
use Rattle.std.specs.Ordering.{int_eq}
use Rattle.sums.specs.Order.{Lists}
use Rattle.sums.specs.Pairing.{cons_if}
use Rattle.stream_case.specs.declared.source.Side.{Side}
use Rattle.stream_case.specs.declared.stream.Stream.{Stream}
use Rattle.stream_case.specs.Source.{same_side}
use Rattle.stream_case.specs.Stream.{has_level_at, is_latent, stream_ends}
use Rattle.problem_table.specs.Deficit.{deficit_above, deficit_from, hot_target}
use Rattle.curves.specs.declared.point.Point.{Point}
use Rattle.problem_table.specs.Sides.{sum_side}
use Rattle.curves.specs.Below.{heat_below, heat_upto, temperatures_of}

-- a stream of a side is latent and has the actual temperature t
abbrev pub is_latent_at : Side → ℤ → Stream → Bool
is_latent_at side t s = same_side s.side side && is_latent s && int_eq s.supply t

-- the point at t with the first heat and, if there are two, that with the second
abbrev pub one_or_two : Bool → ℤ → ℤ → ℤ → List Point
one_or_two two first second t =
    record { heat = first; temperature = t } ∷ cons_if two (record { heat = second; temperature = t }) []

-- the points of a side at an actual temperature: the heat of the side below it and, where one of its streams is latent
-- there, the heat up to it
abbrev pub side_points : Side → List Stream → ℤ → List Point
side_points side streams t =
    one_or_two (list_any (is_latent_at side t) streams) (sum_side side (heat_below t) streams) (sum_side side (heat_upto t) streams) t

-- the points of the grand curve at a shifted temperature: the hot target less the deficit above it and, where a stream
-- is latent there, the hot target less the deficit from it
abbrev pub grand_points : List Stream → ℤ → List Point
grand_points streams t =
    one_or_two (has_level_at t streams) (hot_target streams -ℤ deficit_above streams t) (hot_target streams -ℤ deficit_from streams t) t

-- the points at the temperatures that meet P, each temperature once and in this order
pub record IsCurve (before : ℤ → ℤ → Type 0) (P : ℤ → Type 0) (points_at : ℤ → List Point)
    (curve : List Point) : Type 0 where
  pub temperatures : List ℤ
  pub listed : Lists before P temperatures
  pub points : curve ≡ flat_map points_at temperatures

-- rising, at the ends of the streams of the side
abbrev pub IsSideCurve : Side → List Stream → List Point → Type 0
IsSideCurve side streams = IsCurve (λ a b. a <ℤ b) (Contains (temperatures_of side streams)) (side_points side streams)

-- falling, at the shifted stream ends
abbrev pub IsGrandCurve : List Stream → List Point → Type 0
IsGrandCurve streams = IsCurve (λ a b. b <ℤ a) (Contains (stream_ends streams)) (grand_points streams)
