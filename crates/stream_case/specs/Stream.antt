-- The ranges of a stream, its heat, and valid streams.
use Rattle.std.specs.Prelude.{ℕ, ◌≡◌, ◌<◌, ◌≤◌, ◌⊎◌, ℤ, pos, ◌+ℤ◌, ◌-ℤ◌, ◌*ℤ◌, int_le, int_lt, Bool, true, false, ◌&&◌, List, [], ◌∷◌, length, count_by, All, if◌then◌else◌}
use Rattle.std.specs.Int.{int_max}
use Rattle.std.specs.List.{list_any}
use Rattle.std.specs.Ordering.{int_eq}
use Rattle.stream_case.specs.declared.source.Side.{Side}
use Rattle.stream_case.specs.declared.stream.Stream.{Stream}
use Rattle.stream_case.specs.declared.limits.TheConstants.{MOST_STREAMS}
use Rattle.stream_case.specs.Limits.{IsTemperature, IsContribution, IsFlowRate, IsLoad}
use Rattle.stream_case.specs.Name.{IsName}
use Rattle.stream_case.specs.Shift.{shifted}
use Rattle.stream_case.specs.Source.{is_hot, same_side, IsRightWay}

-- ---- streams that are made

-- a stream of sensible heat: it has no load
abbrev pub sensible_stream : List ℕ → Side → ℤ → ℤ → ℤ → ℤ → Stream
sensible_stream name side supply target cp contribution = record {
  name = name;
  side = side;
  supply = supply;
  target = target;
  cp = cp;
  load = pos 0;
  contribution = contribution;
}

-- the stream with this contribution
abbrev pub stream_with : ℤ → Stream → Stream
stream_with contribution s = record s { contribution = contribution }

-- ---- ranges

-- the ends of the actual range: a hot stream falls to its target, and a cold one rises from its supply
abbrev pub lower_temperature : Stream → ℤ
lower_temperature s = if is_hot s.side then s.target else s.supply

abbrev pub higher_temperature : Stream → ℤ
higher_temperature s = if is_hot s.side then s.supply else s.target

-- the ends of the shifted range
abbrev pub high_end : Stream → ℤ
high_end s = shifted s.side (higher_temperature s) s.contribution

abbrev pub low_end : Stream → ℤ
low_end s = shifted s.side (lower_temperature s) s.contribution

-- the shifted stream ends
abbrev pub stream_ends : List Stream → List ℤ
stream_ends [] = []
stream_ends (s ∷ ss) = high_end s ∷ low_end s ∷ stream_ends ss

-- ---- heats

-- by how much x is above t, and 0 where it is not
abbrev pub distance_above : ℤ → ℤ → ℤ
distance_above x t = int_max (x -ℤ t) (pos 0)

-- the length of the range from low to high that lies above t
abbrev pub length_above : ℤ → ℤ → ℤ → ℤ
length_above low high t = distance_above high t -ℤ distance_above low t

-- the sensible heat that a stream gives or takes between two temperatures of its range
abbrev pub heat_between : ℤ → ℤ → Stream → ℤ
heat_between high low s = s.cp *ℤ (high -ℤ low)

-- that above the shifted temperature t
abbrev pub sensible_above : ℤ → Stream → ℤ
sensible_above t s = s.cp *ℤ length_above (low_end s) (high_end s) t

-- a level counts as above a place that is lower, and as above one that is equal where the place counts from itself
abbrev pub counts_above : Bool → ℤ → ℤ → Bool
counts_above false place level = int_lt place level
counts_above true place level = int_le place level

-- the load of a stream whose level counts as above t, and 0 of any other; the level is the high end, as a latent
-- stream has but one
abbrev pub load_over : Bool → ℤ → Stream → ℤ
load_over from_itself t s = if counts_above from_itself t (high_end s) then s.load else pos 0

-- its heat over the shifted temperature t, which counts from itself or not
abbrev pub heat_over : Bool → ℤ → Stream → ℤ
heat_over from_itself t s = sensible_above t s +ℤ load_over from_itself t s

-- its heat above the shifted temperature t
abbrev pub heat_above : ℤ → Stream → ℤ
heat_above t s = heat_over false t s

-- its heat from the shifted temperature t on, with what is given or taken at t itself
abbrev pub heat_from : ℤ → Stream → ℤ
heat_from t s = heat_over true t s

-- its whole heat: one of the two summands is 0
abbrev pub heat_of : Stream → ℤ
heat_of s = heat_between (high_end s) (low_end s) s +ℤ s.load

-- ---- valid streams

-- a stream of sensible heat: it goes the right way, by a heat-capacity flow
pub record IsSensible (s : Stream) : Type 0 where
  pub way : IsRightWay s.side s.supply s.target
  pub cp : IsFlowRate s.cp
  pub load : s.load ≡ pos 0

-- a stream of latent heat: it condenses or evaporates at one temperature, by a load
pub record IsLatent (s : Stream) : Type 0 where
  pub level : s.supply ≡ s.target
  pub cp : s.cp ≡ pos 0
  pub load : IsLoad s.load

-- a stream that a case may have: an undotted name, numbers in their ranges, and sensible or latent
pub record IsValidStream (s : Stream) : Type 0 where
  pub name : IsName s.name
  pub supply : IsTemperature s.supply
  pub target : IsTemperature s.target
  pub heat : IsSensible s ⊎ IsLatent s
  pub contribution : IsContribution s.contribution

-- the stream has a load, as a valid one has just where it is latent
abbrev pub is_latent : Stream → Bool
is_latent s = int_lt (pos 0) s.load

-- it is latent at this shifted level
abbrev pub is_level_at : ℤ → Stream → Bool
is_level_at level s = is_latent s && int_eq (high_end s) level

-- some stream is
abbrev pub has_level_at : ℤ → List Stream → Bool
has_level_at level streams = list_any (is_level_at level) streams

-- no stream is latent
abbrev pub AreSensible : List Stream → Type 0
AreSensible streams = All IsSensible streams

-- how many streams are on a side
abbrev pub count_on : Side → List Stream → ℕ
count_on side streams = count_by (λ s. same_side s.side side) streams

-- streams that are valid each, and not too many on a side
pub record AreStreams (streams : List Stream) : Type 0 where
  pub each : All IsValidStream streams
  pub few : (side : Side) → count_on side streams ≤ MOST_STREAMS

-- the streams of a valid case, and of a completed one: there is one
pub record HasValidStreams (streams : List Stream) : Type 0 where
  pub some : 0 < length streams
  pub are_streams : AreStreams streams
