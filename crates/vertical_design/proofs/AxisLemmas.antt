-- The heat axis: where the utilities begin and end on it, and that the curves lie on it.
use Rattle.vertical_design.proofs.Words.{AreSensibleStreams, IsBetween, Side, Stream, begin_of, cold_target-within, heat_at, hot_target-within, ints}
use Rattle.vertical_design.proofs.Words.{utility_from, utility_to}
use Rattle.std.proofs.Common.{List, arith, pos, ℤ, ◌<ℤ◌, ◌≡◌, ◌≤ℤ◌}
use Rattle.vertical_design.proofs.CurveLemmas.{end_of, on_curve}
use Rattle.stream_case.specs.declared.source.Side.TheVariants as side

-- the hot utility begins where the cold one has ended
pub record IsAxis (streams : List Stream) : Type 0 where
  pub hot_from : pos 0 ≤ℤ utility_from side.Hot streams
  pub hot_order : utility_from side.Hot streams ≤ℤ utility_to side.Hot streams
  pub cold_order : utility_from side.Cold streams ≤ℤ utility_to side.Cold streams
  pub cold_end : end_of side.Cold streams ≡ utility_to side.Hot streams
  pub apart : utility_to side.Cold streams ≤ℤ utility_from side.Hot streams

pub is_axis : (streams : List Stream) → AreSensibleStreams streams → IsAxis streams
is_axis streams are =
    let hot = hot_target-within streams are.are in
    let cold = cold_target-within streams are.are in
    record {
      hot_from = omega (arith, ints);
      hot_order = omega (arith, ints);
      cold_order = cold.from;
      cold_end = omega (arith, ints);
      apart = cold.upto;
    }

pub utility_order : (of : Side) (streams : List Stream) → IsAxis streams
    → utility_from of streams ≤ℤ utility_to of streams
utility_order side.Hot streams axis = axis.hot_order
utility_order side.Cold streams axis = axis.cold_order

abbrev pub IsOnAxis : List Stream → ℤ → Type 0
IsOnAxis streams x = IsBetween (pos 0) (utility_to side.Hot streams) x

pub curve_on_axis : (of : Side) (streams : List Stream) (t : ℤ) → AreSensibleStreams streams
    → IsOnAxis streams (heat_at of streams t)
curve_on_axis of streams t are = by of (heat_at of streams t) (on_curve of streams are t) (is_axis streams are)
  where
    by : (d : Side) (x : ℤ) → IsBetween (begin_of d streams) (end_of d streams) x → IsAxis streams → IsOnAxis streams x
    by side.Hot x is axis = record { from = is.from; upto = omega (arith, ints) }
    by side.Cold x is axis = record { from = omega (arith, ints); upto = omega (arith, ints) }

pub utility_on_axis : (of : Side) (streams : List Stream) → IsAxis streams
    → IsOnAxis streams (utility_from of streams) × IsOnAxis streams (utility_to of streams)
utility_on_axis side.Hot streams axis = (
  record { from = axis.hot_from; upto = axis.hot_order },
  record { from = omega (arith, ints); upto = omega (arith, ints) },
)
utility_on_axis side.Cold streams axis = (
  record { from = omega (arith, ints); upto = omega (arith, ints) },
  record { from = axis.cold_order; upto = omega (arith, ints) },
)

-- the utility of a side does not lie where its curve does
pub curve_or_utility : (of : Side) (streams : List Stream) (low high : ℤ) → low <ℤ high
    → begin_of of streams ≤ℤ low → high ≤ℤ end_of of streams
    → utility_from of streams ≤ℤ low → high ≤ℤ utility_to of streams → ⊥
curve_or_utility side.Hot streams low high gap begins ends from upto = omega (arith, ints)
curve_or_utility side.Cold streams low high gap begins ends from upto = omega (arith, ints)
