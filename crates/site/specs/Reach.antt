-- Which parts of a site reach which: within a plant as in a case, and between two plants only through a main.
use Rattle.std.specs.Prelude.{ℕ, suc, ℤ, int_le, Bool, true, false, ◌&&◌, ◌==◌, if◌then◌else◌, List, [], ◌∷◌, ◌++◌, map, Option, Some, None, slice_get}
use Rattle.std.specs.List.{list_any}
use Rattle.stream_case.specs.declared.source.Source.{Source}
use Rattle.stream_case.specs.declared.source.Source.TheVariants.{Stream as of_stream, Utility as of_utility}
use Rattle.grid.specs.declared.part.Part.{Part}
use Rattle.heat_flow.specs.Reach.{passes_heat}
use Rattle.site.specs.Table.{gives_at, takes_at}
use Rattle.site_text.specs.declared.site.Main.{Main}
use Rattle.site_text.specs.declared.site.Plant.{Plant}
use Rattle.site_text.specs.declared.site.Site.{Site}

-- ---- plants of sources

-- for each stream of these plants, in their order, the index of its plant, where the first plant has the index n
abbrev pub plants_from : ℕ → List Plant → List ℕ
plants_from n [] = []
plants_from n (plant ∷ plants) = map (λ s. n) plant.streams ++ plants_from (suc n) plants

-- the index of the plant of each stream
abbrev pub stream_plants : List Plant → List ℕ
stream_plants plants = plants_from 0 plants

-- the index of the plant of a source; the utilities belong to none
abbrev pub plant_of : List ℕ → Source → Option ℕ
plant_of plants (of_stream i) = slice_get plants i
plant_of plants (of_utility i) = None

-- both are of one plant, or one of them is a utility
abbrev pub are_together : Option ℕ → Option ℕ → Bool
are_together None other = true
are_together (Some plant) None = true
are_together (Some plant) (Some other) = plant == other

-- ---- reach

-- the hot part gives all its heat at least where the main takes heat, and the cold one takes its heat at most where
-- the main gives it
abbrev pub passes_through : ℤ → Part → Part → Main → Bool
passes_through contribution p q main =
    int_le (takes_at contribution main) p.low && int_le q.high (gives_at contribution main)

-- hot part p reaches cold part q, where the streams have these plants
abbrev pub reaches_within : Site → List ℕ → Part → Part → Bool
reaches_within site plants p q =
    if are_together (plant_of plants p.source) (plant_of plants q.source) then passes_heat p q
    else list_any (passes_through site.contribution p q) site.mains

abbrev pub part_reaches : Site → Part → Part → Bool
part_reaches site p q = reaches_within site (stream_plants site.plants) p q

abbrev pub both_reach : Site → Option Part → Option Part → Bool
both_reach site None q = false
both_reach site (Some p) None = false
both_reach site (Some p) (Some q) = part_reaches site p q

-- the hot part at index a reaches the cold part at index b
abbrev pub reach_between : Site → List Part → List Part → ℕ → ℕ → Bool
reach_between site hot cold a b = both_reach site (slice_get hot a) (slice_get cold b)
