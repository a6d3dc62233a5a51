-- The heat axis of the shifted composite curves, what each source covers of it, and where it is cut.
use Rattle.std.specs.Prelude.{ℕ, ℤ, pos, ◌+ℤ◌, ◌*ℤ◌, List, [], ◌∷◌, ◌++◌, Option, Some, None, if◌then◌else◌, Contains}
use Rattle.std.specs.List.{enumerate_from, filter_map, flat_map}
use Rattle.stream_case.specs.Source.{same_side}
use Rattle.stream_case.specs.Stream.{heat_of, high_end, low_end}
use Rattle.stream_case.specs.declared.case.Case.{Case}
use Rattle.stream_case.specs.declared.source.Side.{Side}
use Rattle.stream_case.specs.declared.source.Side.TheVariants as side
use Rattle.stream_case.specs.declared.source.Source.TheVariants as source
use Rattle.stream_case.specs.declared.stream.Stream.{Stream}
use Rattle.stream_case.specs.declared.utility.Utility.{Utility}
use Rattle.sums.specs.Order.{ListsFalling}
use Rattle.curves.specs.Below.{length_below}
use Rattle.problem_table.specs.Deficit.{cold_target, hot_target}
use Rattle.problem_table.specs.Sides.{sum_side}
use Rattle.vertical_design.specs.declared.band.Band.{Band}

-- ---- the shifted curves

-- the heat that a stream gives or takes below the shifted temperature t
abbrev pub heat_below : ℤ → Stream → ℤ
heat_below t s = s.cp *ℤ length_below (low_end s) (high_end s) t

-- the hot curve begins at heat 0, and the cold one at the cold target
abbrev pub begin_of : Side → List Stream → ℤ
begin_of side.Hot streams = pos 0
begin_of side.Cold streams = cold_target streams

-- the heat of the curve of a side at the shifted temperature t: that of all its streams below t, on from where the
-- curve begins
abbrev pub heat_at : Side → List Stream → ℤ → ℤ
heat_at of streams t = begin_of of streams +ℤ sum_side of (heat_below t) streams

-- ---- what each source covers

-- a stream covers what lies between its two ends on the curve of its side
abbrev pub stream_band : Side → List Stream → ℕ × Stream → Option Band
stream_band of streams (number, s) =
    if same_side s.side of
    then Some (record { source = source.Stream number; from = heat_at of streams (low_end s); to = heat_at of streams (high_end s); cp = s.cp })
    else None

-- the hot utility covers the hot target above the hot curve, and the cold one the cold target below the cold curve
abbrev pub utility_from : Side → List Stream → ℤ
utility_from side.Hot streams = sum_side side.Hot heat_of streams
utility_from side.Cold streams = pos 0

abbrev pub utility_to : Side → List Stream → ℤ
utility_to side.Hot streams = sum_side side.Hot heat_of streams +ℤ hot_target streams
utility_to side.Cold streams = cold_target streams

-- it stands alone there, so that any flow will do for it
abbrev pub utility_band : Side → List Stream → ℕ × Utility → Option Band
utility_band of streams (number, u) =
    if same_side u.side of
    then Some (record { source = source.Utility number; from = utility_from of streams; to = utility_to of streams; cp = pos 1 })
    else None

-- the bands of a side: those of its streams, then that of its utility
unfoldable pub bands_of : Side → Case → List Band
bands_of of case =
    filter_map (stream_band of case.streams) (enumerate_from 0 case.streams)
    ++ filter_map (utility_band of case.streams) (enumerate_from 0 case.utilities)

-- ---- the cuts

abbrev pub ends_of : List Band → List ℤ
ends_of bands = flat_map (λ s. s.from ∷ s.to ∷ []) bands

-- the axis is cut wherever a band begins or ends; the cuts are listed from the greatest heat down
abbrev pub AreCuts : List Band → List Band → List ℤ → Type 0
AreCuts hot cold cuts = ListsFalling (Contains (ends_of hot ++ ends_of cold)) cuts
