-- The two profiles as one, by the direction in which they look from their temperature.
use Rattle.std.specs.Prelude.{ℤ, pos, neg_ℤ, ◌+ℤ◌, int_le, Bool, List, ◌∷◌, if◌then◌else◌}
use Rattle.std.specs.Int.{int_max}
use Rattle.stream_case.specs.Limits.{IsBetween}
use Rattle.stream_case.specs.declared.limits.TheConstants.{ALL_STREAMS_HEAT}
use Rattle.stream_case.specs.declared.stream.Stream.{Stream}
use Rattle.sums.specs.Sum.{int_sum_by}
use Rattle.problem_table.specs.Deficit.{deficit_above}
use Rattle.site.specs.Profiles.{greatest_where, surplus_below}
use Rattle.site.specs.Table.{site_places}
use Rattle.site_text.specs.declared.site.Plant.{Plant}
use Rattle.site_text.specs.declared.site.Site.{Site}
use Rattle.site.specs.declared.profiles.Direction.{Direction}
use Rattle.site.specs.declared.profiles.Direction.TheVariants.{Down, Up}

-- what streams want above a place, or have to give below it
abbrev pub imbalance : Direction → List Stream → ℤ → ℤ
imbalance Up streams place = deficit_above streams place
imbalance Down streams place = surplus_below streams place

-- the place lies at t or beyond it
abbrev pub is_beyond : Direction → ℤ → ℤ → Bool
is_beyond Up t place = int_le t place
is_beyond Down t place = int_le place t

-- the greatest imbalance so far, where one place more is looked at
abbrev pub raised : Direction → ℤ → List Stream → ℤ → ℤ → ℤ
raised direction t streams so_far place =
    if is_beyond direction t place then int_max so_far (imbalance direction streams place) else so_far

abbrev pub plant_profile : Direction → List ℤ → ℤ → Plant → ℤ
plant_profile direction places t plant =
    greatest_where (is_beyond direction t) (imbalance direction plant.streams) (t ∷ places)

abbrev pub profile : Direction → Site → ℤ → ℤ
profile direction site t = int_sum_by (plant_profile direction (site_places site) t) site.plants

-- an imbalance of streams, in W
abbrev pub IsImbalance : ℤ → Type 0
IsImbalance heat = IsBetween (neg_ℤ (ALL_STREAMS_HEAT +ℤ ALL_STREAMS_HEAT)) (ALL_STREAMS_HEAT +ℤ ALL_STREAMS_HEAT) heat

-- a heat that a plant wants or has to give, in W
abbrev pub IsPlantHeat : ℤ → Type 0
IsPlantHeat heat = IsBetween (pos 0) (ALL_STREAMS_HEAT +ℤ ALL_STREAMS_HEAT) heat
