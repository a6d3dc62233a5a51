-- The heat of streams below an actual temperature.
use Rattle.std.specs.Prelude.{ℤ, pos, ◌+ℤ◌, ◌-ℤ◌, ◌*ℤ◌, Bool, false, true, List, [], ◌∷◌, filter, if◌then◌else◌}
use Rattle.std.specs.List.{flat_map}
use Rattle.stream_case.specs.declared.source.Side.{Side}
use Rattle.stream_case.specs.declared.stream.Stream.{Stream}
use Rattle.stream_case.specs.Source.{same_side}
use Rattle.stream_case.specs.Stream.{lower_temperature, higher_temperature, distance_above, counts_above}

-- the length of the range from low to high that lies below t
abbrev pub length_below : ℤ → ℤ → ℤ → ℤ
length_below low high t = distance_above t low -ℤ distance_above t high

-- the sensible heat that a stream gives or takes below the actual temperature t
abbrev pub sensible_below : ℤ → Stream → ℤ
sensible_below t s = s.cp *ℤ length_below (lower_temperature s) (higher_temperature s) t

-- the load of a latent stream whose temperature counts as below t: one that is lower, and one that is equal up to t
abbrev pub load_under : Bool → ℤ → Stream → ℤ
load_under upto_itself t s = if counts_above upto_itself s.supply t then s.load else pos 0

-- the heat of a stream under t, with what is given or taken at t itself or not
abbrev pub heat_under : Bool → ℤ → Stream → ℤ
heat_under upto_itself t s = sensible_below t s +ℤ load_under upto_itself t s

-- its heat below t
abbrev pub heat_below : ℤ → Stream → ℤ
heat_below t s = heat_under false t s

-- its heat up to t, with what is given or taken at t itself
abbrev pub heat_upto : ℤ → Stream → ℤ
heat_upto t s = heat_under true t s

-- the actual temperatures that are an end of a stream of a side
abbrev pub temperatures_of : Side → List Stream → List ℤ
temperatures_of side streams = flat_map (λ s. s.supply ∷ s.target ∷ []) (filter (λ s. same_side s.side side) streams)
