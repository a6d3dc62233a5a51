-- What the plants of a site can take from the mains above a temperature, and what they can give to them below it.
use Rattle.std.specs.Prelude.{ℤ, pos, ◌-ℤ◌, ◌*ℤ◌, int_le, Bool, List, ◌∷◌, map, fold, filter}
use Rattle.std.specs.Int.{int_max}
use Rattle.stream_case.specs.Stream.{distance_above, high_end, low_end}
use Rattle.stream_case.specs.declared.source.Side.TheVariants.{Hot, Cold}
use Rattle.stream_case.specs.declared.stream.Stream.{Stream}
use Rattle.sums.specs.Sum.{int_sum_by}
use Rattle.problem_table.specs.Deficit.{deficit_above}
use Rattle.problem_table.specs.Sides.{sum_side}
use Rattle.site.specs.Table.{site_places}
use Rattle.site_text.specs.declared.site.Plant.{Plant}
use Rattle.site_text.specs.declared.site.Site.{Site}

-- ---- surplus

-- the length of the range from low to high that lies below t
abbrev pub length_below : ℤ → ℤ → ℤ → ℤ
length_below low high t = distance_above t low -ℤ distance_above t high

-- the heat that a stream gives or takes below the shifted temperature t; the streams of a site are sensible
abbrev pub heat_below : ℤ → Stream → ℤ
heat_below t s = s.cp *ℤ length_below (low_end s) (high_end s) t

-- the surplus below t: the hot heat below it less the cold heat below it
abbrev pub surplus_below : List Stream → ℤ → ℤ
surplus_below streams t = sum_side Hot (heat_below t) streams -ℤ sum_side Cold (heat_below t) streams

-- ---- profiles

-- the greatest value of f at those of these places that pass the test, and at least 0
abbrev pub greatest_where : (ℤ → Bool) → (ℤ → ℤ) → List ℤ → ℤ
greatest_where test f places = fold int_max (pos 0) (map f (filter test places))

-- the greatest deficit of a plant above a place that is at least t
abbrev pub plant_sink : List ℤ → ℤ → Plant → ℤ
plant_sink places t plant = greatest_where (λ s. int_le t s) (deficit_above plant.streams) (t ∷ places)

-- the greatest surplus of a plant below a place that is at most t
abbrev pub plant_source : List ℤ → ℤ → Plant → ℤ
plant_source places t plant = greatest_where (λ s. int_le s t) (surplus_below plant.streams) (t ∷ places)

-- the plants together; a place is one of the site's, or t itself
abbrev pub sink_profile : Site → ℤ → ℤ
sink_profile site t = int_sum_by (plant_sink (site_places site) t) site.plants

abbrev pub source_profile : Site → ℤ → ℤ
source_profile site t = int_sum_by (plant_source (site_places site) t) site.plants
