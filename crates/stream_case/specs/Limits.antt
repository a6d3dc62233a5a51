-- Numbers within the limits.
use Rattle.std.specs.Prelude.{ℤ, pos, neg_ℤ, ◌≤ℤ◌}
use Rattle.stream_case.specs.declared.limits.TheConstants.{LOWEST_TEMPERATURE, HIGHEST_TEMPERATURE, MOST_CONTRIBUTION, MOST_CP, MOST_LOAD, LONGEST_RANGE, MOST_HEAT, MOST_PRICE, LOWEST_SHIFTED, HIGHEST_SHIFTED, LOWEST_LEVEL, HIGHEST_LEVEL, MOST_SENSIBLE_HEAT, ALL_SENSIBLE_HEAT, MOST_STREAM_HEAT, ALL_STREAMS_HEAT, MOST_PART_PRICE}

-- x lies from low to high
pub record IsBetween (low high x : ℤ) : Type 0 where
  pub from : low ≤ℤ x
  pub upto : x ≤ℤ high

-- a temperature of a file, in tenths of °C
abbrev pub IsTemperature : ℤ → Type 0
IsTemperature t = IsBetween LOWEST_TEMPERATURE HIGHEST_TEMPERATURE t

-- a contribution to the least approach, in tenths of °C
abbrev pub IsContribution : ℤ → Type 0
IsContribution c = IsBetween (pos 0) MOST_CONTRIBUTION c

-- a heat-capacity flow of a stream, in 10 W/K
abbrev pub IsFlowRate : ℤ → Type 0
IsFlowRate cp = IsBetween (pos 1) MOST_CP cp

-- a load of a latent stream, in W
abbrev pub IsLoad : ℤ → Type 0
IsLoad load = IsBetween (pos 1) MOST_LOAD load

-- a heat of a utility, in W
abbrev pub IsHeat : ℤ → Type 0
IsHeat heat = IsBetween (pos 0) MOST_HEAT heat

-- a price of one watt
abbrev pub IsPrice : ℤ → Type 0
IsPrice price = IsBetween (neg_ℤ MOST_PRICE) MOST_PRICE price

-- the length of a stream's range or of a part of it, in tenths of °C
abbrev pub IsLength : ℤ → Type 0
IsLength length = IsBetween (pos 0) LONGEST_RANGE length

-- a temperature on the shifted scale, in tenths of °C
abbrev pub IsShifted : ℤ → Type 0
IsShifted t = IsBetween LOWEST_SHIFTED HIGHEST_SHIFTED t

-- a level of a utility of a completed case, in tenths of °C
abbrev pub IsLevel : ℤ → Type 0
IsLevel t = IsBetween LOWEST_LEVEL HIGHEST_LEVEL t

-- a heat of a sensible stream, in W
abbrev pub IsSensibleHeat : ℤ → Type 0
IsSensibleHeat heat = IsBetween (pos 0) MOST_SENSIBLE_HEAT heat

-- a heat that sensible streams of a case give or take together, in W
abbrev pub IsSensiblesHeat : ℤ → Type 0
IsSensiblesHeat heat = IsBetween (pos 0) ALL_SENSIBLE_HEAT heat

-- a heat of a stream, in W
abbrev pub IsStreamHeat : ℤ → Type 0
IsStreamHeat heat = IsBetween (pos 0) MOST_STREAM_HEAT heat

-- a heat that streams of a case give or take together, in W
abbrev pub IsStreamsHeat : ℤ → Type 0
IsStreamsHeat heat = IsBetween (pos 0) ALL_STREAMS_HEAT heat

-- a price of a part in a certificate
abbrev pub IsPartPrice : ℤ → Type 0
IsPartPrice price = IsBetween (neg_ℤ MOST_PART_PRICE) MOST_PART_PRICE price
