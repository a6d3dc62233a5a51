-- The two sides, and sources that are one.
use Rattle.std.specs.Prelude.{ℤ, ◌<ℤ◌, int_lt, Bool, true, false, ◌==◌, Option, Some, None}
use Rattle.stream_case.specs.declared.source.Side.{Side}
use Rattle.stream_case.specs.declared.source.Side.TheVariants.{Hot, Cold}
use Rattle.stream_case.specs.declared.source.Source.{Source}
use Rattle.stream_case.specs.declared.source.Source.TheVariants.{Stream as of_stream, Utility as of_utility}

abbrev pub is_hot : Side → Bool
is_hot Hot = true
is_hot Cold = false

abbrev pub same_side : Side → Side → Bool
same_side Hot Hot = true
same_side Hot Cold = false
same_side Cold Hot = false
same_side Cold Cold = true

-- the known side is this one
abbrev pub is_side : Side → Option Side → Bool
is_side of None = false
is_side of (Some other) = same_side of other

-- a hot stream falls from its supply to its target, and a cold one rises
abbrev pub IsRightWay : Side → ℤ → ℤ → Type 0
IsRightWay Hot supply target = target <ℤ supply
IsRightWay Cold supply target = supply <ℤ target

-- the test of it
abbrev pub is_right_way : Side → ℤ → ℤ → Bool
is_right_way Hot supply target = int_lt target supply
is_right_way Cold supply target = int_lt supply target

abbrev pub is_stream : Source → Bool
is_stream (of_stream i) = true
is_stream (of_utility i) = false

-- both are a stream, or both a utility, with one number
abbrev pub same_source : Source → Source → Bool
same_source (of_stream i) (of_stream j) = i == j
same_source (of_stream i) (of_utility j) = false
same_source (of_utility i) (of_stream j) = false
same_source (of_utility i) (of_utility j) = i == j
