-- Bands and shares within the limits.
use Rattle.std.specs.Prelude.{◌≤◌, ℤ, pos, ◌<ℤ◌, List, length, All}
use Rattle.stream_case.specs.Limits.{IsBetween}
use Rattle.stream_case.specs.declared.limits.TheConstants.{ALL_SENSIBLE_HEAT, MOST_CP}
use Rattle.vertical_design.specs.declared.limits.TheConstants.{MOST_BANDS, MOST_FLOW}
use Rattle.vertical_design.specs.declared.band.Band.{Band}

-- a flow of a source, and of a side, in 10 W/K; a source that does not run has the flow 0
abbrev pub IsFlow : ℤ → Type 0
IsFlow flow = IsBetween (pos 0) MOST_CP flow

abbrev pub IsSideFlow : ℤ → Type 0
IsSideFlow flow = IsBetween (pos 0) MOST_FLOW flow

-- a place on the heat axis, in W
abbrev pub IsPlace : ℤ → Type 0
IsPlace heat = IsBetween (pos 0) ALL_SENSIBLE_HEAT heat

-- a band of the axis
pub record IsBand (s : Band) : Type 0 where
  pub flow : IsFlow s.cp
  pub from : IsPlace s.from
  pub to : IsPlace s.to

-- the bands of a side
pub record AreBands (bands : List Band) : Type 0 where
  pub each : All IsBand bands
  pub few : length bands ≤ MOST_BANDS

-- two cuts of the axis, one above the other
pub record IsGap (low high : ℤ) : Type 0 where
  pub low_place : IsPlace low
  pub high_place : IsPlace high
  pub falls : low <ℤ high
